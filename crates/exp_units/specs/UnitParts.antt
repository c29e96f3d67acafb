-- The parts of the pieces that call a unit. Register 4 holds the number of the unit, and the scratch words hold the items from 0 on.
use Rattle.std.specs.Prelude.{ℕ, ◌+◌, List, [], ◌∷◌, ℤ, pos}
use Rattle.layout_params.specs.declared.cell.Field.TheVariants.{A}
use Rattle.sil_micro.specs.declared.op.Area.TheVariants.{Scratch}
use Rattle.sil_micro.specs.declared.op.Fixed.TheVariants.{Number}
use Rattle.sil_micro.specs.declared.op.Op.{Op}
use Rattle.sil_micro.specs.declared.op.Op.TheVariants.{Const, JumpIf, LoadField, StoreWord, UnitCall, Begin, End as EndBy}
use Rattle.sil_micro.specs.declared.op.Target.TheVariants.{Op as Place}
use Rattle.sil_micro.specs.declared.op.Test.TheVariants.{Eq}
use Rattle.sil_micro.specs.declared.op.Text.{Text}
use Rattle.sil_micro.specs.declared.op.Values.{Values}

-- the number of the unit goes to register 4
unfoldable pub unit_head : ℕ → ℤ → List Op
unit_head k d = Begin k ∷ Const 1 (Number d) ∷ LoadField A 4 1 ∷ []

-- the A fields at the places go to the words from one on
unfoldable pub items_code : ℕ → List ℤ → List Op
items_code first [] = []
items_code first (at ∷ ats) = Const 1 (Number at) ∷ LoadField A 2 1 ∷ Const 3 (Number (pos first)) ∷ StoreWord Scratch 3 2 ∷ items_code (first + 1) ats

-- the unit is called; where the answer is 0, on; where it is 1, the unit's fault; where it is 3, a trap; else undefined
unfoldable pub call_code : ℕ → Text → Values → List Op
call_code call text values =
    UnitCall call 4 1 text values
    ∷ Const 2 (Number (pos 0)) ∷ JumpIf Eq 1 2 (Place 12) ∷ Const 2 (Number (pos 1)) ∷ JumpIf Eq 1 2 (Place 8) ∷ Const 2 (Number (pos 3)) ∷ JumpIf Eq 1 2 (Place 10)
    ∷ EndBy 2 ∷ Const 2 (Number (pos 5)) ∷ EndBy 2 ∷ Const 2 (Number (pos 2)) ∷ EndBy 2 ∷ []
