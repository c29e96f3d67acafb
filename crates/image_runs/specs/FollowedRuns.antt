-- What steps of a Cpu that are followed come to.
use Rattle.std.specs.Prelude.{◌≡◌, ◌≢◌, ◌⊎◌, ℕ, List, Option, Some, None, true}
use Rattle.unit_io.specs.Units.{AllUnits, RoseAt}
use Rattle.unit_io.specs.Units as units
use Rattle.image_file.specs.Image.{Image}
use Rattle.rv_emulate.specs.declared.end.CpuEnd.{CpuEnd}
use Rattle.rv_emulate.specs.declared.end.CpuEnd.TheVariants as cpu_end
use Rattle.rv_emulate.specs.CpuTurns.{KeepsUnits}
use Rattle.rv_emulate.specs.Cpus.{CpuState, IsOf, is_told, state}
use Rattle.rv_emulate.specs.EmulatorStates.{On}
use Rattle.rv_emulate.specs.EmulatorRuns.{end_of, met, run, tapes_of}
use Rattle.image_runs.specs.TracedRuns.{text_lines}

-- i steps of a Cpu that didn't end, with the lines of the statements that were met
pub record Follows (image : Image) (i : ℕ) (old now : CpuState) (lines : List ℕ) (us vs : AllUnits) : Type 0 where
  pub same : IsOf image now
  pub on : now.ended ≡ None
  pub runs : is_told (run image i (state old (units.tapes_of us))) ≡ true → run image i (state old (units.tapes_of us)) ≡ On (state now (units.tapes_of vs))
  pub tells : is_told (run image i (state old (units.tapes_of us))) ≡ true → lines ≡ text_lines image (met image i (state old (units.tapes_of us)))
  pub units : KeepsUnits us vs
  pub failed : (n : ℕ) → now.failed ≡ Some n → (old.failed ≡ Some n) ⊎ RoseAt n us vs

-- a run under a budget that ended so, with these lines, unless memory ran out or it came to a unit that doesn't tell its tape
pub record IsFollowed (image : Image) (budget : ℕ) (old : CpuState) (end : CpuEnd) (lines : List ℕ) (us vs : AllUnits) : Type 0 where
  pub ends : end ≢ cpu_end.Memory → is_told (run image budget (state old (units.tapes_of us))) ≡ true → end_of (run image budget (state old (units.tapes_of us))) ≡ Some end
  pub leaves : end ≢ cpu_end.Memory → is_told (run image budget (state old (units.tapes_of us))) ≡ true → units.tapes_of vs ≡ tapes_of (run image budget (state old (units.tapes_of us)))
  pub tells : end ≢ cpu_end.Memory → is_told (run image budget (state old (units.tapes_of us))) ≡ true → lines ≡ text_lines image (met image budget (state old (units.tapes_of us)))
  pub faults : (k n : ℕ) → end ≡ cpu_end.UnitFault k n → (old.failed ≡ Some n) ⊎ RoseAt n us vs
