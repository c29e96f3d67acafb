-- Where an operation can stand.
use Rattle.std.specs.Prelude.{◌-◌, ◌^◌, ◌<◌, ◌≤◌, Bool, true, false, IsTrue}
use Rattle.sil_micro.specs.declared.op.Op.{Op}
use Rattle.sil_micro.specs.declared.op.Op.TheVariants.{Const, Copy, Arith, Jump, JumpIf, JumpEntry, JumpReturn, LoadField, StoreField, StoreCell, LoadChar, StoreChar, LoadWord, StoreWord, UnitCall, Begin, End}
use Rattle.sil_micro.specs.Forms.{are_values}
use Rattle.sil_micro.specs.declared.op.Text.{Text}
use Rattle.sil_micro.specs.declared.op.Text.TheVariants as text
use Rattle.rv_operations.specs.declared.places.Site.{Site}

-- the number of a statement that is begun is small
abbrev pub IsBegun : Op → Type 0
IsBegun (Begin k) = k < 2 ^ 31 - 2 ^ 11
IsBegun _ = Unit {0}

-- the registers of a text are registers
abbrev pub IsText : Text → Type 0
IsText text.None = Unit {0}
IsText (text.Format i) = Unit {0}
IsText (text.Chars at len) = (at < 16) × (len < 16)

-- the place and the text are near, and the text is short
pub record CanStand (site : Site) (op : Op) : Type 0 where
  pub place : site.place < 2 ^ 31 - 2 ^ 13
  pub text : site.links.text < 2 ^ 31 - 2 ^ 11
  pub text_len : site.links.text_len ≤ 256
  pub number : IsBegun op

-- the operation's registers are registers, and its values are few
abbrev pub HasRules : Op → Type 0
HasRules (Const to value) = to < 16
HasRules (Copy to from) = (to < 16) × (from < 16)
HasRules (Arith kind to left right) = (to < 16) × (left < 16) × (right < 16)
HasRules (Jump to) = Unit {0}
HasRules (JumpIf test left right to) = (left < 16) × (right < 16)
HasRules (JumpEntry entry) = entry < 16
HasRules (JumpReturn entry) = entry < 16
HasRules (LoadField f to at) = (to < 16) × (at < 16)
HasRules (StoreField f at from) = (at < 16) × (from < 16)
HasRules (StoreCell at a f v) = (at < 16) × (a < 16) × (f < 16) × (v < 16)
HasRules (LoadChar to at) = (to < 16) × (at < 16)
HasRules (StoreChar at from) = (at < 16) × (from < 16)
HasRules (LoadWord area to at) = (to < 16) × (at < 16)
HasRules (StoreWord area at from) = (at < 16) × (from < 16)
HasRules (UnitCall call unit to text values) = (unit < 16) × (to < 16) × IsText text × IsTrue (are_values values) × (call ≤ 6)
HasRules (Begin k) = Unit {0}
HasRules (End by) = by < 16

-- an operation on a cell, a word or a unit
abbrev pub is_access : Op → Bool
is_access (LoadField f to at) = true
is_access (StoreField f at from) = true
is_access (StoreCell at a f v) = true
is_access (LoadChar to at) = true
is_access (StoreChar at from) = true
is_access (LoadWord area to at) = true
is_access (StoreWord area at from) = true
is_access (UnitCall call unit to text values) = true
is_access _ = false
