-- The operations of the macros on patterns. At the head of each loop register 4 holds 0, and register 5 holds 1.
use Rattle.std.specs.Prelude.{ℕ, List, [], ◌∷◌, ℤ, pos}
use Rattle.layout_params.specs.declared.cell.Field.TheVariants.{A, F, V}
use Rattle.sil_micro.specs.declared.op.Area.TheVariants.{Scratch}
use Rattle.sil_micro.specs.declared.op.Arith.TheVariants.{Add, Sub, Mul}
use Rattle.sil_micro.specs.declared.op.Test.TheVariants.{Eq, Ne, Lt, Ge}
use Rattle.sil_micro.specs.declared.op.Target.TheVariants.{Op as Place, Statement}
use Rattle.sil_micro.specs.declared.op.Fixed.TheVariants.{Number, Descr, Cells}
use Rattle.sil_micro.specs.declared.op.Op.{Op}
use Rattle.sil_micro.specs.declared.op.Op.TheVariants.{Const, Copy, Arith, Jump, JumpIf, LoadField, StoreField, StoreCell, LoadWord, StoreWord, Begin, End as EndBy}

-- the last alternative gets an offset
unfoldable pub link_code : ℕ → ℤ → ℤ → List Op
link_code k d1 d2 =
    Begin k ∷ Const 4 (Number (pos 0)) ∷ Const 5 (Number (pos 1))
    ∷ Const 1 (Number d1) ∷ LoadField A 2 1 ∷ Const 1 (Number d2) ∷ LoadField A 3 1
    ∷ Const 7 Descr ∷ Arith Add 7 7 7 ∷ Arith Add 2 2 7 ∷ Const 6 (Number (pos 0)) ∷ Const 8 Cells
    ∷ JumpIf Ne 8 4 (Place 15) ∷ Const 9 (Number (pos 3)) ∷ EndBy 9
    ∷ Arith Sub 8 8 5 ∷ Arith Add 9 2 6 ∷ LoadField A 6 9 ∷ JumpIf Ne 6 4 (Place 12)
    ∷ StoreField A 9 3 ∷ []

-- the least A field of all alternatives
unfoldable pub least_code : ℕ → ℤ → ℤ → List Op
least_code k d1 d2 =
    Begin k ∷ Const 4 (Number (pos 0)) ∷ Const 5 (Number (pos 1)) ∷ Const 1 (Number d2) ∷ LoadField A 2 1
    ∷ Const 3 Descr ∷ Arith Add 7 3 3 ∷ Arith Add 3 7 3 ∷ Arith Add 3 2 3 ∷ Arith Add 2 2 7
    ∷ Const 6 (Number (pos 0)) ∷ Const 7 (Number (pos 9223372036854775807)) ∷ Const 8 Cells
    ∷ JumpIf Ne 8 4 (Place 16) ∷ Const 9 (Number (pos 3)) ∷ EndBy 9
    ∷ Arith Sub 8 8 5 ∷ Arith Add 9 3 6 ∷ LoadField A 10 9 ∷ Arith Add 9 2 6 ∷ LoadField A 6 9
    ∷ JumpIf Ge 10 7 (Place 23) ∷ Copy 7 10 ∷ JumpIf Ne 6 4 (Place 13)
    ∷ Const 1 (Number d1) ∷ StoreCell 1 7 4 4 ∷ []

-- the first pair of a block whose cell of a number is a key
unfoldable pub search_code : ℕ → ℤ → ℤ → ℤ → ℤ → ℕ → ℕ → List Op
search_code k cell d1 d2 d3 failure success =
    Begin k ∷ Const 4 (Number (pos 0)) ∷ Const 5 (Number (pos 1))
    ∷ Const 1 (Number d2) ∷ LoadField A 2 1 ∷ LoadField F 3 1 ∷ LoadField V 15 1 ∷ LoadField V 6 2 ∷ JumpIf Eq 6 4 (Statement failure)
    ∷ Const 1 (Number d3) ∷ LoadField A 8 1 ∷ LoadField F 9 1 ∷ LoadField V 10 1
    ∷ Const 13 Descr ∷ Const 11 (Number cell) ∷ Arith Mul 11 11 13 ∷ Arith Add 11 2 11 ∷ Arith Add 13 13 13
    ∷ Const 12 (Number (pos 0)) ∷ Const 7 Cells ∷ Arith Add 7 7 5
    ∷ JumpIf Ne 7 4 (Place 24) ∷ Const 1 (Number (pos 3)) ∷ EndBy 1
    ∷ Arith Sub 7 7 5 ∷ JumpIf Ge 12 6 (Statement failure) ∷ Arith Add 1 11 12
    ∷ LoadField A 14 1 ∷ JumpIf Ne 14 8 (Place 37) ∷ LoadField F 14 1 ∷ JumpIf Ne 14 9 (Place 37) ∷ LoadField V 14 1 ∷ JumpIf Ne 14 10 (Place 37)
    ∷ Arith Add 2 2 12 ∷ Const 1 (Number d1) ∷ StoreCell 1 2 3 15 ∷ Jump (Statement success)
    ∷ Arith Add 12 12 13 ∷ Jump (Place 21) ∷ []

-- the offsets of a copy go to the first three scratch words
unfoldable pub offsets_code : ℕ → ℤ → ℤ → ℤ → List Op
offsets_code k d3 d4 d5 =
    Begin k ∷ Const 4 (Number (pos 0)) ∷ Const 5 (Number (pos 1)) ∷ Const 7 (Number (pos 2))
    ∷ Const 1 (Number d3) ∷ LoadField A 6 1 ∷ StoreWord Scratch 4 6
    ∷ Const 1 (Number d4) ∷ LoadField A 6 1 ∷ StoreWord Scratch 5 6
    ∷ Const 1 (Number d5) ∷ LoadField A 6 1 ∷ StoreWord Scratch 7 6 ∷ []

-- registers 2, 3 and 6 := the places of the copy and of the node, and the bytes that are left
unfoldable pub begin_code : ℤ → ℤ → ℤ → List Op
begin_code d1 d2 d6 =
    Const 1 (Number d1) ∷ LoadField A 2 1 ∷ Const 1 (Number d2) ∷ LoadField A 3 1 ∷ Const 1 (Number d6) ∷ LoadField A 6 1 ∷ []

-- nodes are copied while bytes are left, and D1.A := the place after the copy
unfoldable pub copy_code : ℤ → List Op
copy_code d1 =
    Const 0 Cells ∷ JumpIf Ne 0 4 (Place 4) ∷ Const 1 (Number (pos 3)) ∷ EndBy 1
    ∷ Arith Sub 0 0 5 ∷ Const 15 Descr
    ∷ Arith Add 1 3 15 ∷ LoadField A 7 1 ∷ LoadField F 8 1 ∷ LoadField V 9 1
    ∷ Arith Add 1 15 15 ∷ Arith Add 1 3 1 ∷ LoadField A 10 1 ∷ LoadField F 11 1 ∷ LoadField V 12 1
    ∷ Arith Add 1 15 15 ∷ Arith Add 1 1 15 ∷ Arith Add 1 3 1 ∷ LoadField A 13 1 ∷ LoadField V 14 1
    ∷ JumpIf Eq 10 4 (Place 23) ∷ LoadWord Scratch 1 5 ∷ Arith Add 10 10 1
    ∷ JumpIf Ne 12 4 (Place 27) ∷ Const 1 (Number (pos 2)) ∷ LoadWord Scratch 12 1 ∷ Jump (Place 29) ∷ LoadWord Scratch 1 5 ∷ Arith Add 12 12 1
    ∷ LoadWord Scratch 1 4 ∷ Arith Add 13 13 1 ∷ Arith Add 14 14 1
    ∷ Const 1 (Number (pos 3)) ∷ JumpIf Ne 9 1 (Place 40) ∷ Arith Add 1 15 15 ∷ Arith Add 1 1 1 ∷ Arith Add 1 3 1 ∷ LoadField F 4 1 ∷ LoadField V 5 1 ∷ LoadField A 15 1
    ∷ Const 1 Descr ∷ Arith Add 1 2 1 ∷ StoreCell 1 7 8 9
    ∷ Const 7 Descr ∷ Arith Add 8 7 7 ∷ Arith Add 1 2 8 ∷ StoreCell 1 10 11 12
    ∷ Arith Add 1 8 7 ∷ Arith Add 1 2 1 ∷ Const 10 (Number (pos 0)) ∷ StoreCell 1 13 10 14
    ∷ Const 1 (Number (pos 3)) ∷ JumpIf Ne 9 1 (Place 56) ∷ Arith Add 1 8 8 ∷ Arith Add 1 2 1 ∷ StoreCell 1 15 4 5
    ∷ Const 4 (Number (pos 0)) ∷ Const 5 (Number (pos 1)) ∷ Arith Add 9 5 9 ∷ Arith Mul 9 9 7
    ∷ Arith Add 2 2 9 ∷ Arith Add 3 3 9 ∷ Arith Sub 6 6 9 ∷ JumpIf Lt 4 6 (Place 1)
    ∷ Const 1 (Number d1) ∷ StoreField A 1 2 ∷ []
