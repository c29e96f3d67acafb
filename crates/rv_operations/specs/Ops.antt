-- All operations: their instructions in a code, what these rest on, and that they do what the operations do.
use Rattle.std.specs.Prelude.{◌≡◌, ℕ, ◌+◌, ◌-◌, ◌*◌, ◌%◌, ◌^◌, ◌<◌, ◌≤◌, List, length, not, IsTrue, FitsSigned}
use Rattle.std.specs.Int.{w64}
use Rattle.std.specs.List.{flat_map}
use Rattle.sil_base.specs.declared.limits.TheConstants.{MAX_CONSTANT_BYTES, MAX_STATEMENTS, MAX_STEPS}
use Rattle.layout_params.specs.Parameters.{Settings}
use Rattle.sil_micro.specs.declared.op.Fixed.TheVariants.{Number}
use Rattle.sil_micro.specs.declared.op.Op.{Op}
use Rattle.sil_micro.specs.declared.op.Op.TheVariants.{Const, Jump, JumpIf, Begin}
use Rattle.sil_micro.specs.Forms.{is_op}
use Rattle.sil_micro.specs.Operations.{act, weight}
use Rattle.sil_micro.specs.Pieces.{is_no_begin, is_quiet}
use Rattle.sil_micro.specs.MicroStates.{Setting, Micro}
use Rattle.image_file.specs.Image.{Image}
use Rattle.rv_isa.specs.declared.instr.Instr.{Instr}
use Rattle.rv_emulate.specs.EmulatorStates.{State}
use Rattle.rv_operations.specs.declared.places.Site.{Site}
use Rattle.rv_operations.specs.OpCodes.{instructions, op_length}
use Rattle.rv_operations.specs.Links.{fixed_bits, links_of}
use Rattle.rv_operations.specs.CodePlaces.{Places, target_place}
use Rattle.rv_operations.specs.StandingRoutines.{HasRoutines}
use Rattle.rv_operations.specs.Does.{Does, BeginsAnew}

-- ---- an operation in a code

-- where an operation of a code stands, and what it is linked to
abbrev pub site_of : Setting → Places → ℕ → Op → Site
site_of g places place op = record { routines = places.routines; links = links_of g.settings g.static_cells g.formats places op; place = place }

-- its instructions at a place
abbrev pub code_of : Setting → Places → ℕ → Op → List Instr
code_of g places place op = instructions g.settings.sizes (site_of g places place op) op

-- the bits of its constant, 0 where it has none
abbrev pub number_of : Settings → ℕ → Op → ℕ
number_of settings statics (Const to value) = fixed_bits settings statics value
number_of settings statics _ = 0

-- how many instructions it has, wherever it stands
abbrev pub length_of : Settings → ℕ → Op → ℕ
length_of settings statics op = op_length (number_of settings statics op) op

-- ---- what its instructions rest on

abbrev pub IsNear : ℕ → Type 0
IsNear place = (place < 2 ^ 31 - 2 ^ 12) × (place % 4 ≡ 0)

-- a number has 64 bits, the place of a jump is near, and a statement that is begun is one of the code's, or the one behind them
abbrev pub NamesNear : Setting → Places → Op → Type 0
NamesNear g places (Const to (Number n)) = FitsSigned w64 n
NamesNear g places (Jump to) = IsNear (target_place places to)
NamesNear g places (JumpIf test left right to) = IsNear (target_place places to)
NamesNear g places (Begin k) = k ≤ g.statements
NamesNear g places op = Unit {0}

-- the number of the current statement is known, but to a Begin
abbrev pub IsKnown : Setting → Op → Micro → Type 0
IsKnown g op u = IsTrue (is_no_begin op) → u.state.statement ≤ g.statements

-- what all operations of a code rest on: the routines stand; the image has the code's statements, and as constants its formats; and the steps allowed are within their limit
pub record Supports (image : Image) (last : ℕ) (g : Setting) (places : Places) : Type 0 where
  pub routines : HasRoutines image last g places
  pub statements : length image.statements ≡ g.statements
  pub few : g.statements ≤ MAX_STATEMENTS
  pub texts : image.constants ≡ flat_map (λ text. text) g.formats
  pub short : length image.constants ≤ MAX_CONSTANT_BYTES
  pub steps : g.bound ≤ MAX_STEPS

-- ---- the laws

-- the instructions of an operation do what it does, within its weight; only call 3 writes
abbrev pub LawOfOps : Type 0
LawOfOps =
    (image : Image) (last : ℕ) (g : Setting) (places : Places) (op : Op) (u : Micro) (s : State)
    → Supports image last g places → IsTrue (is_op op) → NamesNear g places op
    → BeginsAnew image last g (code_of g places s.pc op) u s → IsKnown g op u
    → Does image last g places (not (is_quiet op)) (weight op) (s.pc + 4 * length_of g.settings g.static_cells op) s (act g op u)

-- they are as many as its length says
abbrev pub LawOfOpLengths : Type 0
LawOfOpLengths = (g : Setting) (places : Places) (place : ℕ) (op : Op) → length (code_of g places place op) ≡ length_of g.settings g.static_cells op
