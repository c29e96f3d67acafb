-- Runs that are cut off for want of memory.
use Rattle.std.specs.Prelude.{◌≡◌, ℕ, ◌<◌, true, Some, option_map}
use Rattle.unit_io.specs.Tapes.{Tapes}
use Rattle.rv_isa.specs.declared.instr.Instr.TheVariants.{Ecall}
use Rattle.rv_isa.specs.Decoded.{decoded}
use Rattle.image_file.specs.Image.{Image}
use Rattle.rv_emulate.specs.EmulatorStates.{State, On}
use Rattle.rv_emulate.specs.EmulatorSteps.{word_at}
use Rattle.rv_emulate.specs.EmulatorRuns.{run}
use Rattle.rv_emulate.specs.Cpus.{is_told}
use Rattle.rv_emulate.specs.CpuTurns.{IsCut}

-- the next instruction of this state is a call that prints, which is cut off and leaves these tapes
pub record IsCutAt (image : Image) (s : State) (after : Tapes) : Type 0 where
  pub at : option_map decoded (word_at image.words s.pc) ≡ Some (Some Ecall)
  pub cut : IsCut image.constants s after

-- a run of at most n steps from a state comes to such a state, where the units tell so far
abbrev pub IsCutWithin : Image → ℕ → State → Tapes → Type 0
IsCutWithin image n old after = (k : ℕ) × (k < n) × (is_told (run image k old) ≡ true → (s : State) × (run image k old ≡ On s) × IsCutAt image s after)
