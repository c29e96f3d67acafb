-- What contracts see of a machine between two steps.
use Rattle.std.specs.Prelude.{◌≡◌, ℕ, ◌+◌, ◌<◌, Bool, true, false, Option, Some, None, Result, Ok, Err, IfSome, slice_get}
use Rattle.sil_base.specs.declared.limits.TheConstants.{MAX_STEPS}
use Rattle.unit_io.specs.Tapes.{Tapes, no_tapes}
use Rattle.layout_params.specs.Parameters.{Parameters}
use Rattle.sil_model.specs.declared.end.End.{End}
use Rattle.sil_model.specs.declared.end.End.TheVariants as ends
use Rattle.sil_model.specs.declared.program.Program.{Program}
use Rattle.sil_model.specs.States.{State, Step, Goes, Ends, is_told}
use Rattle.sil_runs.specs.Machine.{step, with_statement}
use Rattle.sil_model.specs.Start.{first_state}
use Rattle.sil_model.specs.Sites.{site_of}
use Rattle.sil_machine.specs.MachineParts.{state_of}
use Rattle.sil_machine.specs.UnitStatements.{IsCut}
use Rattle.sil_machine.specs.declared.state.Position.{Position}
use Rattle.sil_machine.specs.declared.machine.Step.{Step as Answer}
use Rattle.sil_machine.specs.declared.machine.Step.TheVariants.{Next, Stop}

-- the state at a position, with these tapes
abbrev pub state_at : Position → Tapes → State
state_at p tapes = state_of p.statement p.steps p.parts tapes

-- the position of a state
abbrev pub position_of : State → Position
position_of s = record {
  statement = s.statement;
  steps = s.steps;
  parts = record { cells = s.memory; tables = s.tables; current = s.current; previous = s.previous };
}

-- what a call leaves: nothing is said of the state after an end but its tapes
abbrev pub left : Result (Unit {0}) End → State → Step
left (Ok done) s = Goes s
left (Err end) s = Ends (Some end) s.tapes

abbrev pub ended_with_memory : Result (Unit {0}) End → Bool
ended_with_memory (Err ends.Memory) = false
ended_with_memory _ = true

-- a call makes this step, unless there was no memory or the step calls a unit that doesn't tell its tape
unfoldable pub Makes : Step → Result (Unit {0}) End → State → Type 0
Makes r result s = ended_with_memory result ≡ true → is_told r ≡ true → r ≡ left result s

-- what want of memory leaves of the tapes, at the statement of a position
unfoldable pub IsCutAt : Program → Parameters → Position → Tapes → Tapes → Type 0
IsCutAt program parameters p before after = IfSome (slice_get program.statements p.statement) (λ statement. IsCut statement.name (site_of program parameters p.statement statement) p.parts.cells before after)

-- a machine stands at a position, or has ended after so many steps
pub data Outcome : Type 0 where
  Stands : Position → Outcome
  HasEnded : ℕ → Option End → Outcome

-- a machine: its program, the parameters, and where it stands or how it ended
pub record Running : Type 0 where
  pub program : Program
  pub parameters : Parameters
  pub outcome : Outcome

abbrev pub shown : Option End → Position → Outcome
shown None p = Stands p
shown (Some end) p = HasEnded p.steps (Some end)

-- where a machine is after a step that ends with so many steps taken, if it ends the run
abbrev pub settled : ℕ → Step → Outcome
settled steps (Goes s) = Stands (position_of s)
settled steps (Ends end tapes) = HasEnded steps end

abbrev pub tapes_left : Step → Tapes
tapes_left (Goes s) = s.tapes
tapes_left (Ends end tapes) = tapes

-- the step of a machine that stands
abbrev pub step_at : Running → Position → Tapes → Step
step_at r p tapes = step r.program r.parameters (state_at p tapes)

-- whether the units with these tapes tell what the next step does
abbrev pub tells : Running → Outcome → Tapes → Bool
tells r (Stands p) tapes = is_told (step_at r p tapes)
tells r (HasEnded steps end) tapes = true

-- the steps taken once a statement was met here; past the last there is none
abbrev pub counted : Program → Position → ℕ
counted program p = with_statement (slice_get program.statements p.statement) p.steps (λ statement. p.steps + 1)

-- a step of the definition, with these tapes; a machine that has ended stays so
abbrev pub outcome_after : Running → Outcome → Tapes → Outcome
outcome_after r (Stands p) tapes = settled (counted r.program p) (step_at r p tapes)
outcome_after r (HasEnded steps end) tapes = HasEnded steps end

abbrev pub advance : Running → Tapes → Running
advance r tapes = record r { outcome = outcome_after r r.outcome tapes }

-- the tapes that this step leaves
abbrev pub tapes_at : Running → Outcome → Tapes → Tapes
tapes_at r (Stands p) tapes = tapes_left (step_at r p tapes)
tapes_at r (HasEnded steps end) tapes = tapes

-- what the step that led here answers; a machine never shows an end that is None
abbrev pub answer_of : Outcome → Answer
answer_of (Stands p) = Next
answer_of (HasEnded steps (Some end)) = Stop end
answer_of (HasEnded steps None) = Next

-- the steps taken: each statement that was met counts, the one that ended the run included
abbrev pub steps_of : Outcome → ℕ
steps_of (Stands p) = p.steps
steps_of (HasEnded steps end) = steps

-- the steps taken once the machine has made a step
abbrev pub steps_then : Program → Outcome → ℕ
steps_then program (Stands p) = counted program p
steps_then program (HasEnded steps end) = steps

-- a machine that has ended
abbrev pub HasRun : Outcome → Type 0
HasRun (Stands p) = ⊥
HasRun (HasEnded steps end) = Unit {0}

-- what want of memory leaves of the tapes in a step; a machine that has ended keeps them
abbrev pub CutsStep : Running → Outcome → Tapes → Tapes → Type 0
CutsStep r (Stands p) before after = IsCutAt r.program r.parameters p before after
CutsStep r (HasEnded steps end) before after = after ≡ before

-- a machine that has ended can step, and one that has taken fewer than 2^40 steps
abbrev pub CanStep : Outcome → Type 0
CanStep (Stands p) = p.steps < MAX_STEPS
CanStep (HasEnded steps end) = Unit {0}

-- the machine at the first state, in which the position is the same whatever the tapes
abbrev pub first_running : Program → Parameters → Running
first_running program parameters = record { program = program; parameters = parameters; outcome = Stands (position_of (first_state program parameters.settings no_tapes)) }
