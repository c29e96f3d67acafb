-- What the expansion of a statement is to do.
use Rattle.std.specs.Prelude.{◌≡◌, ℕ, ◌+◌, ◌*◌, ◌≤◌, Bool, ◌||◌, List, length, nat_lt, IsTrue, Some, slice_get, All}
use Rattle.sil_base.specs.declared.limits.TheConstants.{STATEMENT_INSTRUCTIONS, VISIT_INSTRUCTIONS}
use Rattle.layout_params.specs.Parameters.{Parameters}
use Rattle.sil_model.specs.declared.program.Arg.{Arg}
use Rattle.sil_model.specs.declared.program.Program.{Program}
use Rattle.sil_model.specs.declared.program.Specials.{Specials}
use Rattle.sil_model.specs.OperandCounts.{operand_count}
use Rattle.sil_model.specs.Effects.{Effect}
use Rattle.sil_model.specs.Fits.{bounds_of, IsWithin}
use Rattle.sil_model.specs.Settling.{settle}
use Rattle.sil_model.specs.Sites.{Site}
use Rattle.sil_model.specs.States.{State, Step, Goes, Ends}
use Rattle.sil_model.specs.Valid.{IsValid}
use Rattle.sil_model.specs.WellFormed.{IsWellFormed}
use Rattle.sil_micro.specs.declared.code.TheConstants.{MAX_PIECE_WEIGHT}
use Rattle.sil_micro.specs.declared.op.Op.{Op}
use Rattle.sil_micro.specs.declared.op.Op.TheVariants.{Begin}
use Rattle.sil_micro.specs.Codes.{MicroCode, appended, begun}
use Rattle.sil_micro.specs.Forms.{all_ops}
use Rattle.sil_micro.specs.Pieces.{is_part, names_within, begins_once, is_quiet, weights}
use Rattle.sil_micro.specs.MicroStates.{Setting, Micro}
use Rattle.sil_micro.specs.MicroWays.{Way, Came, Ended, way}

-- a state at a statement
abbrev pub at : ℕ → State → State
at k s = record s { statement = k }

-- what a statement sees
abbrev pub site_at : Program → Parameters → ℕ → List Arg → Site
site_at program parameters k args = record { program = program; parameters = parameters; statement = k; args = args }

-- the instructions that a statement may take
abbrev pub cost_at : List Arg → (Site → State → ℕ) → Site → State → ℕ
cost_at args visits site s = STATEMENT_INSTRUCTIONS + VISIT_INSTRUCTIONS * (operand_count args + visits site s)

-- a way comes to the step's state, or ends as the step ends, within a weight
abbrev pub Meets : Way → Step → ℕ → Type 0
Meets (Came k u) (Goes s) cost = (at k u.state ≡ s) × (u.spent ≤ cost)
Meets (Ended end u) (Ends end' tapes) cost = (end ≡ end') × (u.state.tapes ≡ tapes) × (u.spent ≤ cost)
Meets _ _ cost = ⊥

-- the setting is that of a well formed program with these special symbols
pub record IsSettingOf (g : Setting) (program : Program) (parameters : Parameters) (specials : Specials) : Type 0 where
  pub well_formed : IsWellFormed program parameters.settings
  pub symbols : program.specials ≡ specials
  pub settings : g.settings ≡ parameters.settings
  pub statements : g.statements ≡ length program.statements
  pub static_cells : g.static_cells ≡ length program.cells
  pub formats : g.formats ≡ program.formats

-- a valid state at statement k with steps left, and operands within the program's bounds, whatever the registers and the scratch hold
pub record CanBegin (g : Setting) (program : Program) (parameters : Parameters) (specials : Specials) (k : ℕ) (args : List Arg) (u : Micro) : Type 0 where
  pub setting : IsSettingOf g program parameters specials
  pub within : All (IsWithin (bounds_of program parameters.settings)) args
  pub valid : IsValid program parameters.settings (at k u.state)
  pub left : IsTrue (nat_lt u.state.steps g.bound)

-- with this fuel the way makes the step, within its cost
pub record Makes (g : Setting) (next : ℕ) (piece : List Op) (place : ℕ) (u : Micro) (step : Step) (cost : ℕ) : Type 0 where
  pub fuel : ℕ
  pub meets : Meets (way g next piece fuel place u) step cost

-- from each such state the piece of statement k makes the step of its clause
abbrev pub Does : ℕ → List Op → Specials → List Arg → (Site → State → Effect) → (Site → State → ℕ) → Type 0
Does k piece specials args clause visits =
    (g : Setting) (program : Program) (parameters : Parameters) (u : Micro) → CanBegin g program parameters specials k args u →
    Makes g (k + 1) piece 0 u (settle (at k u.state) (clause (site_at program parameters k args) (at k u.state))) (cost_at args visits (site_at program parameters k args) (at k u.state))

-- the operations of statement k, in a code of so many statements and formats; they write records only where its macro does
pub record IsPiece (k statements formats : ℕ) (prints : Bool) (piece : List Op) : Type 0 where
  pub part : IsTrue (is_part piece)
  pub begins : slice_get piece 0 ≡ Some (Begin k)
  pub once : IsTrue (begins_once piece)
  pub names : IsTrue (all_ops (names_within statements formats) piece)
  pub quiet : IsTrue (prints || all_ops is_quiet piece)
  pub light : weights piece ≤ MAX_PIECE_WEIGHT

-- the code has the entry of statement k and a piece more, and the piece makes the statement's step
pub record Expands (old new : MicroCode) (k : ℕ) (specials : Specials) (args : List Arg) (clause : Site → State → Effect) (visits : Site → State → ℕ) (prints : Bool) : Type 0 where
  pub piece : List Op
  pub stands : new ≡ appended (begun k old) piece
  pub is_piece : IsPiece k (length old.entries) (length old.formats) prints piece
  pub does : Does k piece specials args clause visits
