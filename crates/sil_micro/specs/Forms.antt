-- The rules that each operation of a code keeps.
use Rattle.std.specs.Prelude.{ℕ, zero, suc, Bool, true, false, ◌&&◌, nat_lt, nat_le, List, [], ◌∷◌}
use Rattle.sil_base.specs.declared.limits.TheConstants.{MAX_LIST_ITEMS}
use Rattle.sil_micro.specs.declared.op.Text.{Text}
use Rattle.sil_micro.specs.declared.op.Text.TheVariants as text
use Rattle.sil_micro.specs.declared.op.Values.{Values}
use Rattle.sil_micro.specs.declared.op.Values.TheVariants as values
use Rattle.sil_micro.specs.declared.op.Op.{Op}
use Rattle.sil_micro.specs.declared.op.Op.TheVariants.{Const, Copy, Arith, Jump, JumpIf, JumpEntry, JumpReturn, LoadField, StoreField, StoreCell, LoadChar, StoreChar, LoadWord, StoreWord, UnitCall, Begin, End as EndBy}

-- there are sixteen registers
abbrev pub is_register : ℕ → Bool
is_register r = nat_lt r 16

abbrev pub has_text : Text → Bool
has_text text.None = false
has_text (text.Format i) = true
has_text (text.Chars at len) = is_register at && is_register len

abbrev pub has_place : Text → Bool
has_place (text.Chars at len) = is_register at && is_register len
has_place _ = false

abbrev pub has_no_text : Text → Bool
has_no_text text.None = true
has_no_text _ = false

abbrev pub are_values : Values → Bool
are_values values.None = true
are_values (values.Words count) = nat_le count MAX_LIST_ITEMS
are_values (values.Chars at len) = is_register at && is_register len

abbrev pub has_no_values : Values → Bool
has_no_values values.None = true
has_no_values _ = false

-- call 2 has the place that is read into, call 3 a text, and no others have either
abbrev pub is_call : ℕ → Text → Values → Bool
is_call (suc (suc zero)) text values = has_place text && has_no_values values
is_call (suc (suc (suc zero))) text values = has_text text && are_values values
is_call (suc (suc (suc (suc zero)))) text values = has_no_text text && has_no_values values
is_call (suc (suc (suc (suc (suc zero))))) text values = has_no_text text && has_no_values values
is_call (suc (suc (suc (suc (suc (suc zero)))))) text values = has_no_text text && has_no_values values
is_call _ text values = false

abbrev pub is_op : Op → Bool
is_op (Const to value) = is_register to
is_op (Copy to from) = is_register to && is_register from
is_op (Arith kind to left right) = is_register to && is_register left && is_register right
is_op (Jump to) = true
is_op (JumpIf test left right to) = is_register left && is_register right
is_op (JumpEntry entry) = is_register entry
is_op (JumpReturn entry) = is_register entry
is_op (LoadField field to at) = is_register to && is_register at
is_op (StoreField field at from) = is_register at && is_register from
is_op (StoreCell at a f v) = is_register at && is_register a && is_register f && is_register v
is_op (LoadChar to at) = is_register to && is_register at
is_op (StoreChar at from) = is_register at && is_register from
is_op (LoadWord area to at) = is_register to && is_register at
is_op (StoreWord area at from) = is_register at && is_register from
is_op (UnitCall call unit to text values) = is_register unit && is_register to && is_call call text values
is_op (Begin k) = true
is_op (EndBy by) = is_register by

-- all of these operations do
abbrev pub all_ops : (Op → Bool) → List Op → Bool
all_ops test [] = true
all_ops test (op ∷ ops) = test op && all_ops test ops
