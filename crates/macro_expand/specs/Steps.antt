-- The steps that a code makes, and their costs.
use Rattle.std.specs.Prelude.{◌≡◌, ℕ, ◌<◌, ◌≤◌, [], ◌∷◌, Some, slice_get}
use Rattle.sil_base.specs.declared.limits.TheConstants.{MAX_STEPS}
use Rattle.layout_params.specs.Parameters.{Parameters}
use Rattle.sil_model.specs.declared.program.Program.{Program}
use Rattle.sil_model.specs.declared.program.Statement.{Statement}
use Rattle.sil_runs.specs.Costs.{cost}
use Rattle.sil_runs.specs.Machine.{make_step}
use Rattle.sil_model.specs.States.{Step, Goes, Ends}
use Rattle.sil_model.specs.Valid.{IsValid}
use Rattle.sil_micro.specs.Codes.{MicroCode, place_of, setting_of}
use Rattle.sil_micro.specs.Expands.{at}
use Rattle.sil_micro.specs.Laws.{Leads}
use Rattle.sil_micro.specs.MicroRuns.{Outcome, At, Ended}
use Rattle.sil_micro.specs.MicroStates.{Setting, Micro}

-- the code comes to the place of the step's statement in the step's state, or ends as the step ends, and what it ran since the statement began weighs no more than this
abbrev pub Makes : MicroCode → Outcome → Step → ℕ → Type 0
Makes c (At place u) (Goes s) most = (place_of c s.statement ≡ Some place) × (at s.statement u.state ≡ s) × (u.spent ≤ most)
Makes c (Ended end u) (Ends end' tapes) most = (end ≡ end') × (u.state.tapes ≡ tapes) × (u.spent ≤ most)
Makes c _ _ most = ⊥

-- from the place of statement k some operations, which meet that statement alone, make this step
pub record MakesStep (g : Setting) (c : MicroCode) (k : ℕ) (u : Micro) (step : Step) (most : ℕ) : Type 0 where
  pub place : ℕ
  pub entered : place_of c k ≡ Some place
  pub count : ℕ
  pub outcome : Outcome
  pub leads : Leads g c count place u outcome (k ∷ [])
  pub makes : Makes c outcome step most

-- from each valid state with steps left the code makes the machine's step within the statement's cost, whatever the registers and the scratch hold
abbrev pub StepsWithinCosts : Program → Parameters → MicroCode → Type 0
StepsWithinCosts program parameters c =
    (n : ℕ) → n ≤ MAX_STEPS → (k : ℕ) (statement : Statement) (u : Micro) → slice_get program.statements k ≡ Some statement → IsValid program parameters.settings (at k u.state) → u.state.steps < n →
    MakesStep (setting_of c parameters.settings n) c k u (make_step program parameters statement (at k u.state)) (cost program parameters statement (at k u.state))
