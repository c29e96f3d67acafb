-- The step that an effect makes.
use Rattle.std.specs.Prelude.{ℕ, ◌+◌, Some, None}
use Rattle.sil_model.specs.declared.end.End.{End}
use Rattle.sil_model.specs.declared.end.End.TheVariants as ends
use Rattle.sil_model.specs.declared.program.Flow.TheVariants.{Next, To, Exit, Trap}
use Rattle.sil_model.specs.Effects.{Effect, On, Undefined, UnitFault, Untold}
use Rattle.sil_model.specs.States.{State, Step, Goes, Ends}

-- what a clause left at s, gone on to k and counted
abbrev pub at_next : State → ℕ → State → State
at_next s k t = record t { statement = k; steps = s.steps + 1 }

-- the end with the tapes of this state
abbrev pub ends_with : End → State → Step
ends_with end s = Ends (Some end) s.tapes

-- the step that an effect makes
abbrev pub settle : State → Effect → Step
settle s None = ends_with (ends.Undefined s.statement) s
settle s (Some (On Next, t)) = Goes (at_next s (s.statement + 1) t)
settle s (Some (On (To k), t)) = Goes (at_next s k t)
settle s (Some (On (Exit code), t)) = ends_with (ends.Exit code) t
settle s (Some (On Trap, t)) = ends_with (ends.Trap s.statement) t
settle s (Some (Undefined, t)) = ends_with (ends.Undefined s.statement) t
settle s (Some (UnitFault unit, t)) = ends_with (ends.UnitFault s.statement unit) t
settle s (Some (Untold, t)) = Ends None t.tapes
