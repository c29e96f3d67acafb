-- The law of steps.
use Rattle.std.specs.Prelude.{◌≡◌, ◌+◌, ◌<◌, ◌≤◌, length, Some, slice_get}
use Rattle.sil_base.specs.declared.limits.TheConstants.{MAX_STEPS}
use Rattle.unit_io.specs.Tapes.{Tapes}
use Rattle.layout_params.specs.Parameters.{Parameters}
use Rattle.sil_model.specs.declared.program.Program.{Program}
use Rattle.sil_model.specs.declared.program.Statement.{Statement}
use Rattle.sil_model.specs.States.{State, Goes}
use Rattle.sil_model.specs.Start.{first_state}
use Rattle.sil_model.specs.WellFormed.{IsWellFormed}
use Rattle.sil_model.specs.Valid.{IsValid}
use Rattle.sil_runs.specs.Machine.{make_step}
use Rattle.sil_runs.specs.Costs.{weight, weight_limit}

-- the start is valid with no step taken, a step keeps states valid and is counted, and the weight of a statement has a bound
pub record IsSteady (program : Program) (parameters : Parameters) : Type 0 where
  pub start : (tapes : Tapes) → IsValid program parameters.settings (first_state program parameters.settings tapes) × ((first_state program parameters.settings tapes).steps ≡ 0)
  pub keeps : (statement : Statement) (s t : State) → slice_get program.statements s.statement ≡ Some statement → IsValid program parameters.settings s → s.steps < MAX_STEPS →
      make_step program parameters statement s ≡ Goes t → IsValid program parameters.settings t × (t.steps ≡ s.steps + 1)
  pub bound : (statement : Statement) (s : State) → slice_get program.statements s.statement ≡ Some statement → IsValid program parameters.settings s →
      weight program parameters statement s ≤ weight_limit parameters.settings (length s.memory.cells)

-- a well formed program runs so
abbrev pub LawOfSteps : Type 0
LawOfSteps = (program : Program) (parameters : Parameters) → IsWellFormed program parameters.settings → IsSteady program parameters
