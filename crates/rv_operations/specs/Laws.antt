-- The words of operations do what the operations do.
use Rattle.std.specs.Prelude.{◌≡◌, ℕ, ◌+◌, ◌-◌, ◌*◌, ◌%◌, ◌^◌, ◌<◌, ◌≤◌, length, not, false, IsTrue, FitsSigned}
use Rattle.std.specs.Int.{w64}
use Rattle.std.specs.List.{flat_map}
use Rattle.layout_params.specs.declared.cell.Field.{Field}
use Rattle.sil_micro.specs.declared.op.Arith.{Arith}
use Rattle.layout_params.specs.Sizes.{Sizes, is_legal}
use Rattle.sil_micro.specs.declared.op.Op.{Op}
use Rattle.rv_operations.specs.declared.places.Site.{Site}
use Rattle.sil_micro.specs.declared.op.Fixed.{Fixed}
use Rattle.sil_micro.specs.declared.op.Op.TheVariants.{Const, Copy, Arith as ArithOp, Jump, JumpIf, LoadField, StoreField, StoreCell, UnitCall, Begin, End}
use Rattle.sil_micro.specs.declared.op.Target.{Target}
use Rattle.sil_micro.specs.declared.op.Text.{Text}
use Rattle.sil_micro.specs.declared.op.Values.{Values}
use Rattle.sil_micro.specs.declared.op.Test.{Test}
use Rattle.sil_micro.specs.Forms.{is_op}
use Rattle.sil_micro.specs.Operations.{act, fixed}
use Rattle.sil_micro.specs.Pieces.{is_quiet}
use Rattle.sil_micro.specs.MicroStates.{Setting, Micro}
use Rattle.image_file.specs.Image.{Image}
use Rattle.rv_emulate.specs.EmulatorStates.{State}
use Rattle.rv_straight.specs.Constants.{constant_code, constant_length}
use Rattle.rv_straight.specs.Jumps.{leap_code, jump_if_code}
use Rattle.rv_operations.specs.Homes.{home}
use Rattle.rv_straight.specs.Code.{AreInstrs}
use Rattle.rv_operations.specs.OpSites.{CanStand, HasRules}
use Rattle.rv_operations.specs.CodePlaces.{Places, target_place}
use Rattle.rv_operations.specs.Links.{fixed_bits, text_links}
use Rattle.rv_operations.specs.OpCodes.{copy_code, arith_code, branch_op, load_field_code, store_field_code, store_cell_code, begin_code, end_code, unit_call_code, instructions, op_length, text_length, values_length}
use Rattle.rv_operations.specs.StandingRoutines.{HasRoutines}
use Rattle.rv_operations.specs.Does.{Does, Begins, BeginsAnew}

abbrev pub LawOfConst : Type 0
LawOfConst =
    (image : Image) (last : ℕ) (g : Setting) (places : Places) (to : ℕ) (value : Fixed) (u : Micro) (s : State)
    → to < 16 → fixed_bits g.settings g.static_cells value < 2 ^ 64 → FitsSigned w64 (fixed g u.state value)
    → Begins image last g (constant_code (home to) (fixed_bits g.settings g.static_cells value)) u s
    → Does image last g places false 8 (s.pc + 4 * constant_length (fixed_bits g.settings g.static_cells value)) s (act g (Const to value) u)

abbrev pub LawOfCopy : Type 0
LawOfCopy =
    (image : Image) (last : ℕ) (g : Setting) (places : Places) (to from : ℕ) (u : Micro) (s : State)
    → to < 16 → from < 16 → Begins image last g (copy_code to from) u s
    → Does image last g places false 1 (s.pc + 4) s (act g (Copy to from) u)

abbrev pub LawOfArith : Type 0
LawOfArith =
    (image : Image) (last : ℕ) (g : Setting) (places : Places) (kind : Arith) (to left right : ℕ) (u : Micro) (s : State)
    → to < 16 → left < 16 → right < 16 → Begins image last g (arith_code kind to left right) u s
    → Does image last g places false 1 (s.pc + 4) s (act g (ArithOp kind to left right) u)

abbrev pub LawOfJump : Type 0
LawOfJump =
    (image : Image) (last : ℕ) (g : Setting) (places : Places) (to : Target) (u : Micro) (s : State)
    → target_place places to < 2 ^ 31 - 2 ^ 12 → target_place places to % 4 ≡ 0 → Begins image last g (leap_code 28 0 s.pc (target_place places to)) u s
    → Does image last g places false 2 (s.pc + 8) s (act g (Jump to) u)

abbrev pub LawOfJumpIf : Type 0
LawOfJumpIf =
    (image : Image) (last : ℕ) (g : Setting) (places : Places) (test : Test) (left right : ℕ) (to : Target) (u : Micro) (s : State)
    → left < 16 → right < 16 → target_place places to < 2 ^ 31 - 2 ^ 12 → target_place places to % 4 ≡ 0
    → Begins image last g (jump_if_code (branch_op test) (home left) (home right) s.pc (target_place places to)) u s
    → Does image last g places false 3 (s.pc + 12) s (act g (JumpIf test left right to) u)

-- a field is read in 19 instructions, and written in 22
abbrev pub LawOfLoadField : Type 0
LawOfLoadField =
    (image : Image) (last : ℕ) (g : Setting) (places : Places) (f : Field) (to at : ℕ) (u : Micro) (s : State)
    → to < 16 → at < 16 → HasRoutines image last g places → Begins image last g (load_field_code g.settings.sizes places.routines s.pc f to at) u s
    → Does image last g places false 19 (s.pc + 16) s (act g (LoadField f to at) u)

abbrev pub LawOfStoreField : Type 0
LawOfStoreField =
    (image : Image) (last : ℕ) (g : Setting) (places : Places) (f : Field) (at from : ℕ) (u : Micro) (s : State)
    → at < 16 → from < 16 → HasRoutines image last g places → Begins image last g (store_field_code g.settings.sizes places.routines s.pc f at from) u s
    → Does image last g places false 22 (s.pc + 4 * length (store_field_code g.settings.sizes places.routines s.pc f at from)) s (act g (StoreField f at from) u)

-- a cell is written whole in 25
abbrev pub LawOfStoreCell : Type 0
LawOfStoreCell =
    (image : Image) (last : ℕ) (g : Setting) (places : Places) (at a f v : ℕ) (u : Micro) (s : State)
    → at < 16 → a < 16 → f < 16 → v < 16 → HasRoutines image last g places → Begins image last g (store_cell_code g.settings.sizes places.routines s.pc at a f v) u s
    → Does image last g places false 25 (s.pc + 32) s (act g (StoreCell at a f v) u)

-- a statement begins within 6 instructions, and the run ends within 3
abbrev pub LawOfBegin : Type 0
LawOfBegin =
    (image : Image) (last : ℕ) (g : Setting) (places : Places) (k : ℕ) (u : Micro) (s : State)
    → k < 2 ^ 31 - 2 ^ 11 → k ≤ length image.statements → BeginsAnew image last g (begin_code k) u s
    → Does image last g places false 6 (s.pc + 28) s (act g (Begin k) u)

abbrev pub LawOfEnd : Type 0
LawOfEnd =
    (image : Image) (last : ℕ) (g : Setting) (places : Places) (by : ℕ) (u : Micro) (s : State)
    → by < 16 → Begins image last g (end_code by) u s
    → Does image last g places false 3 (s.pc + 12) s (act g (End by) u)

-- a call on an absent unit, and one that prints or moves a unit that tells its tape, is answered within 11; one that can't be made is stuck; of a read nothing is said
abbrev pub LawOfUnitCall : Type 0
LawOfUnitCall =
    (image : Image) (last : ℕ) (g : Setting) (places : Places) (call unit to : ℕ) (text : Text) (values : Values) (u : Micro) (s : State)
    → IsTrue (is_op (UnitCall call unit to text values)) → image.constants ≡ flat_map (λ t. t) g.formats → length image.constants ≤ 2 ^ 26
    → Begins image last g (unit_call_code (text_links g.formats text) call unit to text values) u s
    → Does image last g places (not (is_quiet (UnitCall call unit to text values))) 11 (s.pc + 4 * (text_length text + values_length values + 4)) s (act g (UnitCall call unit to text values) u)

-- an operation has as many instructions as its length says, wherever it stands
abbrev pub LawOfLengths : Type 0
LawOfLengths = (sizes : Sizes) (site : Site) (op : Op) → length (instructions sizes site op) ≡ op_length site.links.number op

-- each of them has a word
abbrev pub LawOfOpWords : Type 0
LawOfOpWords = (sizes : Sizes) (site : Site) (op : Op) → IsTrue (is_legal sizes) → site.links.number < 2 ^ 64 → CanStand site op → HasRules op → AreInstrs (instructions sizes site op)
