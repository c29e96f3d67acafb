-- The parts of the pieces of lists. Register 4 holds 0 and register 5 holds 1. The scratch words hold the sources' addresses from 0 on, the targets' from 100 on, and what was read from 200 on.
use Rattle.std.specs.Prelude.{ℕ, ◌+◌, List, [], ◌∷◌, Option, Some, None, ℤ, pos}
use Rattle.layout_params.specs.declared.cell.Field.TheVariants.{A, F, V}
use Rattle.sil_base.specs.declared.places.TheConstants.{FIRST_CELL}
use Rattle.sil_micro.specs.declared.op.Area.TheVariants.{State as StateWords, Scratch}
use Rattle.sil_micro.specs.declared.op.Arith.TheVariants.{Add, Sub, Mul}
use Rattle.sil_micro.specs.declared.op.Test.TheVariants.{Eq, Lt, Ge}
use Rattle.sil_micro.specs.declared.op.Target.TheVariants.{Op as Place, Statement}
use Rattle.sil_micro.specs.declared.op.Fixed.TheVariants.{Number, Descr, Cells, Stack}
use Rattle.sil_micro.specs.declared.op.Op.{Op}
use Rattle.sil_micro.specs.declared.op.Op.TheVariants.{Const, Copy, Arith, Jump, JumpIf, LoadField, StoreCell, LoadWord, StoreWord, Begin, End as EndBy}
use Rattle.sil_micro.specs.Pieces.{joined}

-- ---- starts: register 12 has the new top, register 10 the address of the first cell, register 11 the distance of cells; where register 14 is below register 15 the cells don't fit

-- so many cells go onto the stack
unfoldable pub up_head : ℕ → ℕ → List Op
up_head k cells =
    Begin k ∷ Const 4 (Number (pos 0)) ∷ Const 5 (Number (pos 1)) ∷ LoadWord StateWords 10 4 ∷ Const 11 Descr
    ∷ Const 12 (Number (pos cells)) ∷ Arith Mul 12 12 11 ∷ Arith Add 12 10 12 ∷ Copy 15 12
    ∷ Const 13 Cells ∷ Arith Mul 13 13 11 ∷ Const 14 (Number (pos FIRST_CELL)) ∷ Arith Add 14 14 13 ∷ Arith Sub 14 14 11 ∷ Arith Add 10 10 11 ∷ []

-- so many come off it
unfoldable pub down_head : ℕ → ℕ → List Op
down_head k cells =
    Begin k ∷ Const 4 (Number (pos 0)) ∷ Const 5 (Number (pos 1)) ∷ LoadWord StateWords 10 4 ∷ Const 11 Descr
    ∷ Const 12 (Number (pos cells)) ∷ Arith Mul 12 12 11 ∷ Arith Sub 12 10 12 ∷ Copy 14 12 ∷ Const 15 Stack ∷ Arith Sub 15 15 11 ∷ Arith Sub 11 4 11 ∷ []

-- where they don't fit, to the special symbol; where that isn't there, undefined
unfoldable pub guard_code : Option ℕ → List Op
guard_code None = JumpIf Ge 14 15 (Place 3) ∷ Const 6 (Number (pos 3)) ∷ EndBy 6 ∷ []
guard_code (Some place) = JumpIf Lt 14 15 (Statement place) ∷ []

-- ---- addresses

-- the places go to the words from one on
unfoldable pub places_code : ℕ → List ℤ → List Op
places_code first [] = []
places_code first (at ∷ ats) = Const 1 (Number (pos first)) ∷ Const 2 (Number at) ∷ StoreWord Scratch 1 2 ∷ places_code (first + 1) ats

-- so many addresses go there, from the one in register 10, each by register 11 further
unfoldable pub line_code : ℕ → ℕ → List Op
line_code first count =
    Const 1 (Number (pos first)) ∷ Const 3 (Number (pos count))
    ∷ JumpIf Eq 3 4 (Place 8) ∷ StoreWord Scratch 1 10 ∷ Arith Add 10 10 11 ∷ Arith Add 1 1 5 ∷ Arith Sub 3 3 5 ∷ Jump (Place 2) ∷ []

-- ---- cells

-- those at the sources are read, into words from one on
unfoldable pub gather_code : ℕ → ℕ → List Op
gather_code to count =
    Const 1 (Number (pos 0)) ∷ Const 2 (Number (pos to)) ∷ Const 3 (Number (pos count))
    ∷ JumpIf Eq 3 4 (Place 17) ∷ LoadWord Scratch 6 1 ∷ LoadField A 7 6 ∷ LoadField F 8 6 ∷ LoadField V 9 6
    ∷ StoreWord Scratch 2 7 ∷ Arith Add 2 2 5 ∷ StoreWord Scratch 2 8 ∷ Arith Add 2 2 5 ∷ StoreWord Scratch 2 9 ∷ Arith Add 2 2 5
    ∷ Arith Add 1 1 5 ∷ Arith Sub 3 3 5 ∷ Jump (Place 3) ∷ []

-- what was read is written to the targets
unfoldable pub scatter_code : ℕ → List Op
scatter_code count =
    Const 1 (Number (pos 100)) ∷ Const 2 (Number (pos 200)) ∷ Const 3 (Number (pos count))
    ∷ JumpIf Eq 3 4 (Place 15) ∷ LoadWord Scratch 6 1
    ∷ LoadWord Scratch 7 2 ∷ Arith Add 2 2 5 ∷ LoadWord Scratch 8 2 ∷ Arith Add 2 2 5 ∷ LoadWord Scratch 9 2 ∷ Arith Add 2 2 5
    ∷ StoreCell 6 7 8 9 ∷ Arith Add 1 1 5 ∷ Arith Sub 3 3 5 ∷ Jump (Place 3) ∷ []

-- the top of the stack, from register 12
abbrev pub finish_code : List Op
finish_code = StoreWord StateWords 4 12 ∷ []

-- all are read, all are written, and the top is set
abbrev pub moves_code : ℕ → List Op
moves_code count = joined (gather_code 200 count) (joined (scatter_code count) finish_code)

-- ---- specifiers, of two cells each

-- those at the sources are read, into five words each
unfoldable pub spec_gather_code : ℕ → List Op
spec_gather_code count =
    Const 1 (Number (pos 0)) ∷ Const 2 (Number (pos 200)) ∷ Const 3 (Number (pos count)) ∷ Const 13 Descr
    ∷ JumpIf Eq 3 4 (Place 25) ∷ LoadWord Scratch 6 1 ∷ LoadField A 7 6 ∷ LoadField F 8 6 ∷ LoadField V 9 6
    ∷ StoreWord Scratch 2 7 ∷ Arith Add 2 2 5 ∷ StoreWord Scratch 2 8 ∷ Arith Add 2 2 5 ∷ StoreWord Scratch 2 9 ∷ Arith Add 2 2 5
    ∷ Arith Add 6 6 13 ∷ LoadField A 7 6 ∷ LoadField V 9 6
    ∷ StoreWord Scratch 2 7 ∷ Arith Add 2 2 5 ∷ StoreWord Scratch 2 9 ∷ Arith Add 2 2 5
    ∷ Arith Add 1 1 5 ∷ Arith Sub 3 3 5 ∷ Jump (Place 4) ∷ []

-- they are written to the targets; register 13 has the size of a cell
unfoldable pub spec_scatter_code : ℕ → List Op
spec_scatter_code count =
    Const 1 (Number (pos 100)) ∷ Const 2 (Number (pos 200)) ∷ Const 3 (Number (pos count))
    ∷ JumpIf Eq 3 4 (Place 21) ∷ LoadWord Scratch 6 1
    ∷ LoadWord Scratch 7 2 ∷ Arith Add 2 2 5 ∷ LoadWord Scratch 8 2 ∷ Arith Add 2 2 5 ∷ LoadWord Scratch 9 2 ∷ Arith Add 2 2 5
    ∷ StoreCell 6 7 8 9 ∷ Arith Add 6 6 13
    ∷ LoadWord Scratch 7 2 ∷ Arith Add 2 2 5 ∷ LoadWord Scratch 9 2 ∷ Arith Add 2 2 5
    ∷ StoreCell 6 7 4 9 ∷ Arith Add 1 1 5 ∷ Arith Sub 3 3 5 ∷ Jump (Place 3) ∷ []

abbrev pub spec_moves_code : ℕ → List Op
spec_moves_code count = joined (spec_gather_code count) (joined (spec_scatter_code count) finish_code)

-- twice the distance; from the top down also the first cell of the first specifier
abbrev pub double_up : List Op
double_up = Arith Add 11 11 11 ∷ []

abbrev pub double_down : List Op
double_down = Arith Add 10 10 11 ∷ Arith Add 11 11 11 ∷ []
