-- Runs of an image's bytes.
use Rattle.std.specs.Prelude.{◌≡◌, ◌≢◌, ℕ, List, Some, is_some, true}
use Rattle.unit_io.specs.Tapes.{Tapes}
use Rattle.unit_io.specs.Units.{AllUnits, RoseAt}
use Rattle.image_file.specs.ImageGrammar.{IsFirstWrong}
use Rattle.image_file.specs.Image.{Image, IsImage}
use Rattle.image_file.specs.Spelling.{spelling}
use Rattle.command_report.specs.declared.ending.Stop.{Stop}
use Rattle.command_report.specs.declared.ending.Stop.TheVariants as stop
use Rattle.rv_emulate.specs.declared.end.CpuEnd.{CpuEnd}
use Rattle.rv_emulate.specs.declared.end.CpuEnd.TheVariants as run
use Rattle.rv_emulate.specs.EmulatorRuns.{emulation, budget}

-- the image's run under its budget has an end: it came to no unit that doesn't tell its tape
abbrev pub IsTold : Image → Tapes → ℕ → Type 0
IsTold image tapes n = is_some (emulation image tapes n (budget image n)).end ≡ true

-- where it has one it ends so, and leaves these tapes, unless memory ran out
pub record RunsSo (image : Image) (n : ℕ) (end : CpuEnd) (tapes tapes' : Tapes) : Type 0 where
  pub ends : end ≢ run.Memory → IsTold image tapes n → (emulation image tapes n (budget image n)).end ≡ Some end
  pub leaves : end ≢ run.Memory → IsTold image tapes n → tapes' ≡ (emulation image tapes n (budget image n)).tapes

-- a run ends by a fault of a unit only where the unit's count of faults rose
abbrev pub FaultCause : CpuEnd → AllUnits → AllUnits → Type 0
FaultCause (run.UnitFault statement unit) units units' = RoseAt unit units units'
FaultCause _ units units' = Unit {0}

-- of whatever image these bytes are the spelling
abbrev pub RunsBytes : List ℕ → ℕ → CpuEnd → Tapes → Tapes → Type 0
RunsBytes bytes n end tapes tapes' = (image : Image) → IsImage image → bytes ≡ spelling image → RunsSo image n end tapes tapes'

-- why bytes have no run: they are no image, and the part that is told is the first that differs or is cut short; want of memory has no cause
abbrev pub IsRefusedRun : Stop → List ℕ → Type 0
IsRefusedRun (stop.Missing name) bytes = ⊥
IsRefusedRun (stop.TooLong name) bytes = ⊥
IsRefusedRun (stop.StoreFault name) bytes = ⊥
IsRefusedRun (stop.Parameters fault) bytes = ⊥
IsRefusedRun (stop.Faults faults) bytes = ⊥
IsRefusedRun stop.NotBuilt bytes = ⊥
IsRefusedRun (stop.ImageRefused part) bytes = IsFirstWrong part bytes
IsRefusedRun stop.Memory bytes = Unit {0}
