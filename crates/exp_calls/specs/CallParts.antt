-- The parts of the piece of a call. Until the procedure follows register 4 holds 0, register 5 holds 1, register 11 the size of a cell and register 12 the new top of the stack; the scratch words hold addresses and values as in other lists. In the return part registers 1, 2 and 3 hold what is handed over.
use Rattle.std.specs.Prelude.{ℕ, ◌+◌, List, [], ◌∷◌, length, Option, Some, None, ℤ, pos}
use Rattle.layout_params.specs.declared.cell.Field.TheVariants.{A, F, V}
use Rattle.sil_base.specs.declared.places.TheConstants.{FIRST_ENTRY}
use Rattle.sil_micro.specs.declared.op.Area.TheVariants.{State as StateWords, Scratch}
use Rattle.sil_micro.specs.declared.op.Arith.TheVariants.{Add, Mul}
use Rattle.sil_micro.specs.declared.op.Test.TheVariants.{Eq}
use Rattle.sil_micro.specs.declared.op.Target.TheVariants.{Op as Place, Statement}
use Rattle.sil_micro.specs.declared.op.Fixed.TheVariants.{Number}
use Rattle.sil_micro.specs.declared.op.Op.{Op}
use Rattle.sil_micro.specs.declared.op.Op.TheVariants.{Const, Arith, Jump, JumpIf, LoadField, StoreCell, LoadWord, StoreWord}
use Rattle.sil_micro.specs.Pieces.{joined}
use Rattle.exp_common.specs.Locations.{lead}
use Rattle.exp_stack.specs.ListParts.{gather_code, guard_code, line_code, places_code, scatter_code, up_head}

-- the two cells of the frame of call k, the old top and the call's entry, go to the values
unfoldable pub frame_code : ℕ → List Op
frame_code k =
    LoadWord StateWords 6 5 ∷ Const 2 (Number (pos 200)) ∷ StoreWord Scratch 2 6 ∷ Arith Add 2 2 5 ∷ StoreWord Scratch 2 4 ∷ Arith Add 2 2 5 ∷ StoreWord Scratch 2 4 ∷ Arith Add 2 2 5
    ∷ Const 6 (Number (pos k)) ∷ Arith Mul 6 6 11 ∷ Const 7 (Number (pos FIRST_ENTRY)) ∷ Arith Add 6 7 6
    ∷ StoreWord Scratch 2 6 ∷ Arith Add 2 2 5 ∷ StoreWord Scratch 2 4 ∷ Arith Add 2 2 5 ∷ StoreWord Scratch 2 4 ∷ []

-- the tops are set, and the procedure follows
unfoldable pub enter_code : ℕ → List Op
enter_code procedure = LoadWord StateWords 6 4 ∷ StoreWord StateWords 5 6 ∷ StoreWord StateWords 4 12 ∷ Jump (Statement procedure) ∷ []

-- a return's descriptor goes to the call's, where both are there
unfoldable pub given_code : Option ℤ → List Op
given_code None = []
given_code (Some d) =
    Const 4 (Number (pos 0)) ∷ JumpIf Eq 2 4 (Place 7) ∷ LoadField A 5 1 ∷ LoadField F 6 1 ∷ LoadField V 7 1 ∷ Const 8 (Number d) ∷ StoreCell 8 5 6 7 ∷ []

-- to the location of a return's number, of those from number i on
unfoldable pub located_code : ℕ → ℕ → List (Option ℕ) → List Op
located_code k i [] = []
located_code k i (location ∷ locations) = Const 4 (Number (pos i)) ∷ JumpIf Eq 3 4 (Statement (lead k location)) ∷ located_code k (i + 1) locations

-- the call's own part
abbrev pub call_code : ℕ → Option ℕ → ℕ → List ℤ → List Op
call_code k over procedure places =
    joined (up_head k (2 + length places)) (joined (guard_code over) (joined (places_code 0 places) (joined (line_code 100 (2 + length places))
    (joined (frame_code k) (joined (gather_code 206 (length places)) (joined (scatter_code (2 + length places)) (enter_code procedure)))))))

-- its return part
abbrev pub return_code : Option ℤ → ℕ → List (Option ℕ) → List Op
return_code descriptor k locations = joined (given_code descriptor) (located_code k 1 locations)
