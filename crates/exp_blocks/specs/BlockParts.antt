-- The operations of the macros on blocks. At the head of each loop register 4 holds 0, and register 5 holds 1.
use Rattle.std.specs.Prelude.{ℕ, List, [], ◌∷◌, ℤ, pos}
use Rattle.layout_params.specs.declared.cell.Field.TheVariants.{A, F, V}
use Rattle.sil_micro.specs.declared.op.Area.TheVariants.{Kind}
use Rattle.sil_micro.specs.declared.op.Arith.TheVariants.{Add, Sub, And, Div, Rem}
use Rattle.sil_micro.specs.declared.op.Test.TheVariants.{Eq, Ne, Lt, Ge}
use Rattle.sil_micro.specs.declared.op.Target.TheVariants.{Op as Place}
use Rattle.sil_micro.specs.declared.op.Fixed.TheVariants.{Number, Descr, Ttl, Cells}
use Rattle.sil_micro.specs.declared.op.Op.{Op}
use Rattle.sil_micro.specs.declared.op.Op.TheVariants.{Const, Copy, Arith, Jump, JumpIf, LoadField, StoreField, StoreCell, LoadChar, StoreChar, LoadWord, Begin, End as EndBy}

-- the title at or below an address, and how far below
unfoldable pub title_code : ℕ → ℤ → ℤ → ℤ → List Op
title_code k d1 d2 d3 =
    Begin k ∷ Const 4 (Number (pos 0)) ∷ Const 5 (Number (pos 1))
    ∷ Const 1 (Number d3) ∷ LoadField A 2 1 ∷ LoadField F 3 1 ∷ LoadField V 15 1
    ∷ Const 7 Ttl ∷ Const 11 Descr ∷ Const 6 (Number (pos 0)) ∷ Const 8 Cells
    ∷ JumpIf Ne 8 4 (Place 14) ∷ Const 9 (Number (pos 3)) ∷ EndBy 9
    ∷ Arith Sub 8 8 5 ∷ Arith Sub 9 2 6 ∷ LoadField F 10 9 ∷ Arith And 10 10 7 ∷ JumpIf Eq 10 7 (Place 21)
    ∷ Arith Add 6 6 11 ∷ Jump (Place 11)
    ∷ Const 1 (Number d1) ∷ StoreCell 1 9 3 15 ∷ Const 1 (Number d2) ∷ StoreField A 1 6 ∷ []

-- the cells of a block, but for its title, go to another one
unfoldable pub move_code : ℕ → ℤ → ℤ → ℤ → List Op
move_code k d1 d2 d3 =
    Begin k ∷ Const 4 (Number (pos 0)) ∷ Const 5 (Number (pos 1)) ∷ Const 14 (Number (pos 1073741824))
    ∷ Const 1 (Number d1) ∷ LoadField A 2 1 ∷ Const 1 (Number d2) ∷ LoadField A 3 1 ∷ Const 1 (Number d3) ∷ LoadField A 8 1
    ∷ Const 7 Descr ∷ Copy 6 7 ∷ JumpIf Ge 8 4 (Place 15) ∷ Const 11 (Number (pos 3)) ∷ EndBy 11
    ∷ Arith Rem 11 8 7 ∷ JumpIf Ne 11 4 (Place 13) ∷ Arith Div 8 8 7 ∷ Const 11 Cells ∷ JumpIf Lt 11 8 (Place 13)
    ∷ JumpIf Eq 8 4 (Place 51) ∷ Arith Sub 8 8 5
    ∷ Arith Add 9 3 6 ∷ JumpIf Lt 9 14 (Place 13) ∷ Arith Sub 11 9 14 ∷ Arith Rem 12 11 7 ∷ JumpIf Ne 12 4 (Place 13)
    ∷ Arith Div 11 11 7 ∷ LoadWord Kind 13 11 ∷ Arith Add 10 2 6 ∷ JumpIf Ne 13 4 (Place 37)
    ∷ LoadField A 11 9 ∷ LoadField F 12 9 ∷ LoadField V 13 9 ∷ StoreCell 10 11 12 13
    ∷ Arith Add 6 6 7 ∷ Jump (Place 20)
    ∷ JumpIf Lt 10 14 (Place 13) ∷ Arith Sub 11 10 14 ∷ Arith Rem 12 11 7 ∷ JumpIf Ne 12 4 (Place 13)
    ∷ Arith Div 11 11 7 ∷ LoadWord Kind 13 11 ∷ Const 11 (Number (pos 0))
    ∷ Arith Add 12 9 11 ∷ LoadChar 13 12 ∷ Arith Add 12 10 11 ∷ StoreChar 12 13 ∷ Arith Add 11 11 5 ∷ JumpIf Ne 11 7 (Place 44)
    ∷ Jump (Place 35) ∷ []
