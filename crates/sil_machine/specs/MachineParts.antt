-- What contracts see of the parts of a machine that statements change.
use Rattle.std.specs.Prelude.{◌≡◌, ℕ, Bool, true, false, Option, Some, None, Result, Ok, Err}
use Rattle.unit_io.specs.Tapes.{Tapes}
use Rattle.sil_model.specs.declared.program.Flow.{Flow}
use Rattle.sil_model.specs.Effects.{Effect, Undefined, UnitFault, Untold, goes}
use Rattle.sil_model.specs.Settling.{settle}
use Rattle.sil_model.specs.States.{State, is_told}
use Rattle.sil_machine.specs.declared.parts.Parts.{Parts}
use Rattle.sil_machine.specs.declared.parts.Stop.{Stop}
use Rattle.sil_machine.specs.declared.parts.Stop.TheVariants as stops

-- the state of these parts at a statement, after so many steps, with these tapes
abbrev pub state_of : ℕ → ℕ → Parts → Tapes → State
state_of k steps p tapes = record {
  statement = k;
  memory = p.cells;
  tables = p.tables;
  current = p.current;
  previous = p.previous;
  steps = steps;
  tapes = tapes;
}

-- what a call leaves: nothing is said of the state where it is undefined
abbrev pub left_by : Option Flow → State → Effect
left_by None s = None
left_by (Some flow) s = goes flow s

-- whether there was memory
abbrev pub had_memory : Result Flow Stop → Bool
had_memory (Err stops.Memory) = false
had_memory _ = true

-- the effect of a call that may change units: undefined, with what it left, where it is undefined
abbrev pub answered : Result Flow Stop → State → Effect
answered (Ok flow) s = goes flow s
answered (Err stops.Undefined) s = Some (Undefined, s)
answered (Err (stops.UnitFault unit)) s = Some (UnitFault unit, s)
answered (Err stops.Memory) s = Some (Untold, s)

-- a call makes the step of an effect, unless there was no memory or the effect calls a unit that doesn't tell its tape
unfoldable pub Meets : State → Effect → Result Flow Stop → State → Type 0
Meets s effect result t = had_memory result ≡ true → is_told (settle s effect) ≡ true → settle s effect ≡ settle s (answered result t)
