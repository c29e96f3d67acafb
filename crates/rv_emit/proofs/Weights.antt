-- How long operations are, against their weights.
use Rattle.std.proofs.Common.{ℕ, ◌<◌, ◌≤◌, Bool, true, false, cond, List, [], ◌∷◌, arith}
use Rattle.std.specs.Prelude.{sum_by}
use Rattle.std.proofs.lemmas.List.Sums.{sum_by-cons}
use Rattle.layout_params.specs.declared.cell.Field.TheVariants as field
use Rattle.layout_params.specs.Parameters.{Settings}
use Rattle.sil_micro.specs.declared.op.Area.TheVariants as areas
use Rattle.sil_micro.specs.declared.op.Op.{Op}
use Rattle.sil_micro.specs.declared.op.Op.TheVariants.{Const, Copy, Arith, Jump, JumpIf, JumpEntry, JumpReturn, LoadField, StoreField, StoreCell, LoadChar, StoreChar, LoadWord, StoreWord, UnitCall, Begin, End}
use Rattle.sil_micro.specs.declared.op.Text.{Text}
use Rattle.sil_micro.specs.declared.op.Text.TheVariants as text
use Rattle.sil_micro.specs.declared.op.Values.{Values}
use Rattle.sil_micro.specs.declared.op.Values.TheVariants as values
use Rattle.sil_micro.specs.Operations.{weight}
use Rattle.sil_micro.specs.Pieces.{weights}
use Rattle.rv_straight.specs.Constants.{is_short, is_word}
use Rattle.rv_operations.specs.OpCodes.{op_length, text_length, values_length}
use Rattle.rv_emit.specs.Code.{length_of, number_of}

-- at least one instruction, and at most the weight and twelve
abbrev IsLong : ℕ → Op → Type 0
IsLong n op = (0 < n) × (n ≤ weight op) × (n ≤ 12)

constant_by : (a b : Bool) → (0 < cond a 1 (cond b 2 8)) × (cond a 1 (cond b 2 8) ≤ 8)
constant_by true b = (omega arith, omega arith)
constant_by false true = (omega arith, omega arith)
constant_by false false = (omega arith, omega arith)

text_short : (t : Text) → text_length t ≤ 3
text_short text.None = omega arith
text_short (text.Format i) = omega arith
text_short (text.Chars at len) = omega arith

values_short : (v : Values) → values_length v ≤ 4
values_short values.None = omega arith
values_short (values.Words count) = omega arith
values_short (values.Chars at len) = omega arith

is_long : (number : ℕ) (op : Op) → IsLong (op_length number op) op
is_long number (Const to value) =
    let h = constant_by (is_short number) (is_word number) in
    (h.0, h.1, omega arith)
is_long number (Copy to from) = (omega arith, omega arith, omega arith)
is_long number (Arith kind to left right) = (omega arith, omega arith, omega arith)
is_long number (Jump to) = (omega arith, omega arith, omega arith)
is_long number (JumpIf test left right to) = (omega arith, omega arith, omega arith)
is_long number (JumpEntry entry) = (omega arith, omega arith, omega arith)
is_long number (JumpReturn entry) = (omega arith, omega arith, omega arith)
is_long number (LoadField f to at) = (omega arith, omega arith, omega arith)
is_long number (StoreField field.A at from) = (omega arith, omega arith, omega arith)
is_long number (StoreField field.F at from) = (omega arith, omega arith, omega arith)
is_long number (StoreField field.V at from) = (omega arith, omega arith, omega arith)
is_long number (StoreCell at a f v) = (omega arith, omega arith, omega arith)
is_long number (LoadChar to at) = (omega arith, omega arith, omega arith)
is_long number (StoreChar at from) = (omega arith, omega arith, omega arith)
is_long number (LoadWord areas.State to at) = (omega arith, omega arith, omega arith)
is_long number (LoadWord areas.Scratch to at) = (omega arith, omega arith, omega arith)
is_long number (LoadWord areas.Tables to at) = (omega arith, omega arith, omega arith)
is_long number (LoadWord areas.Kind to at) = (omega arith, omega arith, omega arith)
is_long number (LoadWord areas.Bytes to at) = (omega arith, omega arith, omega arith)
is_long number (StoreWord areas.State at from) = (omega arith, omega arith, omega arith)
is_long number (StoreWord areas.Scratch at from) = (omega arith, omega arith, omega arith)
is_long number (StoreWord areas.Tables at from) = (omega arith, omega arith, omega arith)
is_long number (StoreWord areas.Kind at from) = (omega arith, omega arith, omega arith)
is_long number (StoreWord areas.Bytes at from) = (omega arith, omega arith, omega arith)
is_long number (UnitCall call unit to t v) = let a = text_short t in let b = values_short v in (omega arith, omega arith, omega arith)
is_long number (Begin k) = (omega arith, omega arith, omega arith)
is_long number (End by) = (omega arith, omega arith, omega arith)

pub some_long : (settings : Settings) (statics : ℕ) (op : Op) → 0 < length_of settings statics op
some_long settings statics op = (is_long (number_of settings statics op) op).0

pub long_within : (settings : Settings) (statics : ℕ) (op : Op) → length_of settings statics op ≤ weight op
long_within settings statics op = (is_long (number_of settings statics op) op).1

pub few_within : (settings : Settings) (statics : ℕ) (op : Op) → length_of settings statics op ≤ 12
few_within settings statics op = (is_long (number_of settings statics op) op).2

-- all together
pub sum_within : (settings : Settings) (statics : ℕ) (ops : List Op) → sum_by (length_of settings statics) ops ≤ weights ops
sum_within settings statics [] = omega arith
sum_within settings statics (op ∷ ops) = omega (arith, sum_by-cons (length_of settings statics) op ops, long_within settings statics op, sum_within settings statics ops)
