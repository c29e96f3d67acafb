-- The parts of pieces that write what registers hold.
use Rattle.std.specs.Prelude.{List, [], ◌∷◌, ℤ, pos}
use Rattle.layout_params.specs.declared.cell.Field.TheVariants.{V}
use Rattle.sil_micro.specs.declared.op.Arith.TheVariants.{Add}
use Rattle.sil_micro.specs.declared.op.Fixed.TheVariants.{Number, Descr}
use Rattle.sil_micro.specs.declared.op.Op.{Op}
use Rattle.sil_micro.specs.declared.op.Op.TheVariants.{Const, Arith, LoadField, StoreField, StoreCell}

-- the node that registers 5 to 7 hold gets the right sibling in 8 to 10 and the father in 2 to 4, comes into the cell at the address in 12, and the V field at that in 13 becomes one more than 11; registers 14 and 15 have the size of one and of three cells
unfoldable pub linked_code : List Op
linked_code =
    Arith Add 1 5 15 ∷ StoreCell 1 8 9 10 ∷ Arith Add 1 5 14 ∷ StoreCell 1 2 3 4 ∷ StoreCell 12 5 6 7
    ∷ Const 1 (Number (pos 1)) ∷ Arith Add 11 11 1 ∷ StoreField V 13 11 ∷ []

-- the node in registers 8 to 10 comes between that in 2 to 4, whose right sibling is in 11 to 13, and its father in 5 to 7, and has one son more; registers 14 and 15 have the size of one and of two cells
unfoldable pub inserted_code : List Op
inserted_code =
    Arith Add 1 15 15 ∷ Arith Add 1 8 1 ∷ LoadField V 15 1
    ∷ Arith Add 1 8 14 ∷ StoreCell 1 5 6 7 ∷ Arith Add 6 14 14 ∷ Arith Add 7 6 14 ∷ Arith Add 1 8 7 ∷ StoreCell 1 11 12 13 ∷ Arith Add 1 8 6 ∷ StoreCell 1 2 3 4
    ∷ Arith Add 1 2 14 ∷ StoreCell 1 8 9 10 ∷ Arith Add 1 5 6 ∷ StoreCell 1 8 9 10
    ∷ Arith Add 7 6 6 ∷ Arith Add 1 8 7 ∷ Const 7 (Number (pos 1)) ∷ Arith Add 15 15 7 ∷ StoreField V 1 15 ∷ []

-- the cells of the node in register 2: the first is in 5 to 7, the A fields of the others in 8 and 9
unfoldable pub made_code : List Op
made_code =
    Const 14 Descr ∷ Const 13 (Number (pos 0)) ∷ Arith Add 15 14 14 ∷ Arith Add 1 2 14 ∷ StoreCell 1 5 6 7
    ∷ Arith Add 1 2 15 ∷ StoreCell 1 8 13 13 ∷ Arith Add 15 15 14 ∷ Arith Add 1 2 15 ∷ StoreCell 1 9 13 13 ∷ []

-- the node in registers 2 to 4 goes to a place
unfoldable pub kept_code : ℤ → List Op
kept_code to = Const 1 (Number to) ∷ StoreCell 1 2 3 4 ∷ []

-- its fourth cell is in registers 10 to 12; then it goes to a place
unfoldable pub fourth_code : ℤ → List Op
fourth_code to = Arith Add 15 15 14 ∷ Arith Add 1 2 15 ∷ StoreCell 1 10 11 12 ∷ Const 1 (Number to) ∷ StoreCell 1 2 3 4 ∷ []
