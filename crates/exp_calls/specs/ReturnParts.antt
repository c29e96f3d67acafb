-- The parts of the piece of a return. Register 4 holds 0, register 6 the top of the frame below, register 7 the size of a cell; register 9 gets the top that was saved, register 11 the entry of the call.
use Rattle.std.specs.Prelude.{ℕ, List, [], ◌∷◌, Option, Some, None, ℤ, pos}
use Rattle.layout_params.specs.declared.cell.Field.TheVariants.{A}
use Rattle.sil_base.specs.declared.places.TheConstants.{FIRST_CELL}
use Rattle.sil_model.specs.declared.program.Arg.{Arg}
use Rattle.sil_model.specs.declared.program.Arg.TheVariants.{Absent, Place as PlaceOf, Number as NumberOf}
use Rattle.sil_micro.specs.declared.op.Area.TheVariants.{State as StateWords}
use Rattle.sil_micro.specs.declared.op.Arith.TheVariants.{Add, Sub, Mul, Rem}
use Rattle.sil_micro.specs.declared.op.Test.TheVariants.{Eq, Lt}
use Rattle.sil_micro.specs.declared.op.Target.TheVariants.{Op as Place}
use Rattle.sil_micro.specs.declared.op.Fixed.TheVariants.{Number, Descr, Cells, Stack}
use Rattle.sil_micro.specs.declared.op.Op.{Op}
use Rattle.sil_micro.specs.declared.op.Op.TheVariants.{Const, Arith, JumpIf, JumpReturn, LoadField, LoadWord, StoreWord, Begin, End as EndBy}
use Rattle.exp_calls.specs.CallHalves.{numbered}

-- the two cells of the frame are read
unfoldable pub frame_read_code : ℕ → List Op
frame_read_code k =
    Begin k ∷ Const 4 (Number (pos 0)) ∷ Const 5 (Number (pos 1)) ∷ LoadWord StateWords 6 5 ∷ Const 7 Descr ∷ Arith Add 8 6 7 ∷ LoadField A 9 8
    ∷ Const 10 (Number (pos 2)) ∷ Arith Mul 10 10 7 ∷ Arith Add 8 6 10 ∷ LoadField A 11 8 ∷ []

-- undefined, where the saved top is neither the cell before the stack nor a cell of it
unfoldable pub top_code : List Op
top_code =
    Const 12 Stack ∷ Arith Sub 12 12 7 ∷ Const 13 Cells ∷ Arith Mul 13 13 7 ∷ Const 14 (Number (pos FIRST_CELL)) ∷ Arith Add 13 14 13 ∷ Arith Sub 13 13 7
    ∷ JumpIf Lt 9 12 (Place 12) ∷ JumpIf Lt 13 9 (Place 12) ∷ Arith Sub 14 9 12 ∷ Arith Rem 14 14 7 ∷ JumpIf Eq 14 4 (Place 14)
    ∷ Const 6 (Number (pos 3)) ∷ EndBy 6 ∷ []

-- whether there is a place
abbrev pub flagged : Option ℤ → ℤ
flagged None = pos 0
flagged (Some at) = pos 1

-- the frame goes, and a place and a number are handed over
unfoldable pub hand_over_code : Option ℤ → Option ℤ → List Op
hand_over_code place number =
    StoreWord StateWords 4 6 ∷ StoreWord StateWords 5 9 ∷ Const 1 (Number (numbered place)) ∷ Const 2 (Number (flagged place)) ∷ Const 3 (Number (numbered number)) ∷ JumpReturn 11 ∷ []

-- ---- operands

abbrev pub place_or_absent : Option ℤ → Arg
place_or_absent None = Absent
place_or_absent (Some at) = PlaceOf at

abbrev pub number_or_absent : Option ℤ → Arg
number_or_absent None = Absent
number_or_absent (Some n) = NumberOf n
