-- The piece of a power.
use Rattle.std.specs.Prelude.{ℕ, List, [], ◌∷◌, ℤ, pos, negsuc}
use Rattle.layout_params.specs.declared.cell.Field.TheVariants.{A, F, V}
use Rattle.sil_micro.specs.declared.op.Arith.TheVariants.{Mul, MulHigh, Sub, Rem}
use Rattle.sil_micro.specs.declared.op.Test.TheVariants.{Eq, Ne, Lt, Ge}
use Rattle.sil_micro.specs.declared.op.Target.TheVariants.{Op as Place, Statement}
use Rattle.sil_micro.specs.declared.op.Fixed.TheVariants.{Number}
use Rattle.sil_micro.specs.declared.op.Op.{Op}
use Rattle.sil_micro.specs.declared.op.Op.TheVariants.{Const, Copy, Arith, Jump, JumpIf, LoadField, StoreCell, Begin}

-- register 6 becomes the integer in register 2 to the power in register 5: 0, 1 and -1 by themselves, others by so many products
unfoldable pub power_code : ℕ → ℤ → ℤ → ℤ → ℕ → ℕ → List Op
power_code k d1 d2 d3 failure success =
    Begin k ∷ Const 1 (Number d2) ∷ LoadField A 2 1 ∷ LoadField F 3 1 ∷ LoadField V 4 1 ∷ Const 1 (Number d3) ∷ LoadField A 5 1
    ∷ Const 6 (Number (pos 1)) ∷ Const 8 (Number (pos 0)) ∷ JumpIf Lt 5 8 (Statement failure)
    ∷ JumpIf Eq 2 8 (Place 26) ∷ JumpIf Eq 2 6 (Place 33) ∷ Const 9 (Number (negsuc 0)) ∷ JumpIf Eq 2 9 (Place 29)
    ∷ Const 9 (Number (pos 64)) ∷ JumpIf Ge 5 9 (Statement failure) ∷ Const 9 (Number (pos 1))
    ∷ Const 8 (Number (pos 0)) ∷ JumpIf Eq 5 8 (Place 33) ∷ Arith MulHigh 7 6 2 ∷ Arith Mul 6 6 2 ∷ JumpIf Ge 6 8 (Place 23) ∷ Const 8 (Number (negsuc 0))
    ∷ JumpIf Ne 7 8 (Statement failure) ∷ Arith Sub 5 5 9 ∷ Jump (Place 17)
    ∷ JumpIf Eq 5 8 (Statement failure) ∷ Copy 6 8 ∷ Jump (Place 33)
    ∷ Const 9 (Number (pos 2)) ∷ Arith Rem 9 5 9 ∷ JumpIf Eq 9 8 (Place 33) ∷ Copy 6 2
    ∷ Const 1 (Number d1) ∷ StoreCell 1 6 3 4 ∷ Jump (Statement success) ∷ []
