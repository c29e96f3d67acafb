-- The states of the abstract machine.
use Rattle.std.specs.Prelude.{ℕ, Bool, true, List, Option, is_some, ℤ}
use Rattle.unit_io.specs.Tapes.{Tapes}
use Rattle.sil_model.specs.declared.end.End.{End}
use Rattle.sil_model.specs.declared.table.Table.{Table}
use Rattle.sil_model.specs.Memory.{Memory}

-- the number of the next statement, the memory, the syntax tables, the top of the stack and of the frame below it, the steps taken, and the tapes of the units
pub record State : Type 0 where
  pub statement : ℕ
  pub memory : Memory
  pub tables : List Table
  pub current : ℤ
  pub previous : ℤ
  pub steps : ℕ
  pub tapes : Tapes

-- what a step does: it leaves a state, or ends the run with these tapes; there is no end where it calls a unit that doesn't tell its tape
pub data Step : Type 0 where
  Goes : State → Step
  Ends : Option End → Tapes → Step

-- whether the units tell what the step does
abbrev pub is_told : Step → Bool
is_told (Goes s) = true
is_told (Ends end tapes) = is_some end
