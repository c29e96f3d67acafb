-- The parts of pieces that write what registers hold.
use Rattle.std.specs.Prelude.{ℕ, List, [], ◌∷◌, ℤ, pos}
use Rattle.sil_micro.specs.declared.op.Arith.TheVariants.{Add}
use Rattle.sil_micro.specs.declared.op.Target.TheVariants.{Statement}
use Rattle.sil_micro.specs.declared.op.Fixed.TheVariants.{Number}
use Rattle.sil_micro.specs.declared.op.Op.{Op}
use Rattle.sil_micro.specs.declared.op.Op.TheVariants.{Const, Arith, Jump, StoreCell}

-- the specifier at the address in register 1 gets the fields in registers 2 to 6; register 7 has the size of a cell
unfoldable pub write_code : List Op
write_code = StoreCell 1 2 3 4 ∷ Arith Add 1 1 7 ∷ Const 3 (Number (pos 0)) ∷ StoreCell 1 5 3 6 ∷ []

-- the same, and on to a statement
unfoldable pub write_to_code : ℕ → List Op
write_to_code to = StoreCell 1 2 3 4 ∷ Arith Add 1 1 7 ∷ Const 3 (Number (pos 0)) ∷ StoreCell 1 5 3 6 ∷ Jump (Statement to) ∷ []

-- the cell at an address gets the number in register 4, with 0 as F and V
unfoldable pub size_code : ℤ → List Op
size_code at = Const 1 (Number at) ∷ Const 3 (Number (pos 0)) ∷ StoreCell 1 4 3 3 ∷ []
