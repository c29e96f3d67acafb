-- The steps and the runs of the abstract machine.
use Rattle.std.specs.Prelude.{ℕ, zero, suc, [], ◌∷◌, Option, Some, None, slice_get}
use Rattle.unit_io.specs.Tapes.{Tapes}
use Rattle.layout_params.specs.Parameters.{Parameters}
use Rattle.sil_model.specs.declared.end.End.{End}
use Rattle.sil_model.specs.declared.end.End.TheVariants as ends
use Rattle.sil_model.specs.declared.program.Program.{Program}
use Rattle.sil_model.specs.declared.program.Statement.{Statement}
use Rattle.sil_model.specs.Effects.{Undefined}
use Rattle.sil_runs.specs.Table.{clause}
use Rattle.sil_model.specs.Sites.{site_of}
use Rattle.unit_io.specs.RunEnds.{Run}
use Rattle.sil_model.specs.States.{State, Step, Goes, Ends}
use Rattle.sil_model.specs.Start.{first_state}
use Rattle.sil_model.specs.Settling.{ends_with, settle}

-- the step of a state at this statement
unfoldable pub make_step : Program → Parameters → Statement → State → Step
make_step program parameters statement s = settle s (clause statement.name (site_of program parameters s.statement statement) s)

-- goes on at a statement; past the last there is none
abbrev pub with_statement : {A : Type 0} → Option Statement → A → (Statement → A) → A
with_statement None past go = past
with_statement (Some statement) past go = go statement

abbrev pub after_step : {A : Type 0} → Step → (Option End → Tapes → A) → (State → A) → A
after_step (Goes s) ends go = go s
after_step (Ends e tapes) ends go = ends e tapes

-- one step of any state; past the last statement it is undefined
unfoldable pub step : Program → Parameters → State → Step
step program parameters s =
    with_statement (slice_get program.statements s.statement) (ends_with (ends.Undefined s.statement) s) (λ statement. make_step program parameters statement s)

-- the state after m steps
unfoldable pub after : Program → Parameters → ℕ → State → Step
after program parameters zero s = Goes s
after program parameters (suc m) s = after_step (step program parameters s) Ends (after program parameters m)

abbrev pub ended : Option End → Tapes → Run End
ended e tapes = record { end = e; tapes = tapes; met = [] }

abbrev pub meet : ℕ → Run End → Run End
meet k r = record r { met = k ∷ r.met }

-- a run of at most n steps
unfoldable pub run : Program → Parameters → ℕ → State → Run End
run program parameters zero s =
    with_statement (slice_get program.statements s.statement) (ended (Some (ends.Undefined s.statement)) s.tapes) (λ statement. ended (Some ends.Budget) s.tapes)
run program parameters (suc n) s =
    with_statement (slice_get program.statements s.statement) (ended (Some (ends.Undefined s.statement)) s.tapes)
    (λ statement. meet s.statement (after_step (make_step program parameters statement s) ended (run program parameters n)))

-- the run of a program from its start
abbrev pub machine : Program → Parameters → Tapes → ℕ → Run End
machine program parameters tapes n = run program parameters n (first_state program parameters.settings tapes)
