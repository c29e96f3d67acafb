-- What the words of an operation do.
use Rattle.std.specs.Prelude.{◌≡◌, ℕ, ◌%◌, ◌≤◌, ℤ, List, length, Option, Some, None, Bool, false}
use Rattle.layout_params.specs.Parameters.{AreLegalSettings}
use Rattle.sil_model.specs.declared.end.End.{End}
use Rattle.sil_model.specs.declared.end.End.TheVariants as ends
use Rattle.sil_model.specs.Access.{◌>>=◌}
use Rattle.sil_micro.specs.MicroStates.{Setting, Micro}
use Rattle.sil_model.specs.Entries.{entered_statement}
use Rattle.sil_micro.specs.Operations.{Effect, On, To, ToReturn, Over, Stuck}
use Rattle.image_file.specs.Image.{Image}
use Rattle.rv_isa.specs.declared.instr.Instr.{Instr}
use Rattle.rv_emulate.specs.declared.end.CpuEnd.{CpuEnd}
use Rattle.rv_emulate.specs.declared.end.CpuEnd.TheVariants.{Exit, Trap, Undefined, UnitFault, Budget, Memory}
use Rattle.rv_emulate.specs.EmulatorStates as emulator
use Rattle.rv_emulate.specs.EmulatorStates.{State, Ended}
use Rattle.rv_straight.specs.InstalledWays.{Comes}
use Rattle.rv_straight.specs.Code.{IsNext}
use Rattle.rv_operations.specs.CodePlaces.{Places, target_place}
use Rattle.rv_operations.specs.StandsFor.{StandsFor}

-- an end of the machine in the emulator's words; no other end of the emulator is the same as one of the machine
abbrev pub as_end : End → CpuEnd
as_end (ends.Exit code) = Exit code
as_end (ends.Trap k) = Trap k
as_end (ends.Undefined k) = Undefined k
as_end (ends.UnitFault k unit) = UnitFault k unit
as_end ends.Budget = Budget
as_end ends.Memory = Memory

-- within so many instructions the run from s comes to a place, in a state that stands for u
abbrev pub ComesFor : Image → ℕ → Setting → Bool → ℕ → ℕ → State → Micro → Type 0
ComesFor image last g prints most place s u = (t : State) × Comes image last prints most s (emulator.On t) × (t.pc ≡ place) × StandsFor g u t

-- it comes to a return part, or ends as undefined where there is none
abbrev pub ComesBack : Image → ℕ → Setting → ℕ → State → Micro → Option ℕ → Type 0
ComesBack image last g most s u None = Comes image last false most s (Ended (Some (Undefined u.state.statement)) u.state.tapes)
ComesBack image last g most s u (Some place) = ComesFor image last g false most place s u

-- the return part of the statement whose entry a number is
abbrev pub return_place : Setting → Places → Micro → ℤ → Option ℕ
return_place g places u entry = do
  k ← entered_statement u.state.memory.limits.cell_size g.statements entry
  places.returns k

-- within so many instructions the run from s does what an operation does: it comes to the next operation, to that of a jump, or to the return part of an entry, in a state that stands for the new micro state, or it ends as the operation ends, with no end where it calls a unit that doesn't tell its tape; of an operation that is stuck nothing is said
abbrev pub Does : Image → ℕ → Setting → Places → Bool → ℕ → ℕ → State → Effect → Type 0
Does image last g places prints most next s (On u) = ComesFor image last g prints most next s u
Does image last g places prints most next s (To target u) = ComesFor image last g false most (target_place places target) s u
Does image last g places prints most next s (ToReturn entry u) = ComesBack image last g most s u (return_place g places u entry)
Does image last g places prints most next s (Over (Some end) u) = Comes image last false most s (Ended (Some (as_end end)) u.state.tapes)
Does image last g places prints most next s (Over None u) = Comes image last prints most s (Ended None u.state.tapes)
Does image last g places prints most next s Stuck = Unit {0}

-- the words of a Begin are what a state runs next that stands for u, in which any number may stand as that of the statement
pub record BeginsAnew (image : Image) (last : ℕ) (g : Setting) (instrs : List Instr) (u : Micro) (s : State) : Type 0 where
  pub settings : AreLegalSettings g.settings
  pub stands : StandsFor g u s
  pub code : IsNext image last s instrs
  pub even : s.pc % 4 ≡ 0

-- the words of an operation are what a state runs next that stands for u
pub record Begins (image : Image) (last : ℕ) (g : Setting) (instrs : List Instr) (u : Micro) (s : State) : Type 0 where
  pub settings : AreLegalSettings g.settings
  pub stands : StandsFor g u s
  pub code : IsNext image last s instrs
  pub number : u.state.statement ≤ length image.statements
  pub even : s.pc % 4 ≡ 0
