-- Runs of an image with a line for each statement that is met.
use Rattle.std.specs.Prelude.{◌≡◌, ◌≢◌, ℕ, List, [], ◌++◌, Option, Some, None, codes, slice_get}
use Rattle.std.specs.List.{flat_map}
use Rattle.unit_io.specs.Units.{AllUnits, tapes_of}
use Rattle.image_file.specs.Image.{Image, StatementEntry}
use Rattle.rv_emulate.specs.declared.end.CpuEnd.{CpuEnd}
use Rattle.rv_emulate.specs.declared.end.CpuEnd.TheVariants as run
use Rattle.rv_emulate.specs.EmulatorRuns.{emulation, budget}
use Rattle.image_runs.specs.ImageRuns.{FaultCause, IsTold, RunsSo}
use Rattle.image_runs.specs.Listings.{entry_text}

-- the line of a statement that is met
abbrev pub traced_line : ℕ → Option StatementEntry → List ℕ
traced_line k None = []
traced_line k (Some e) = entry_text k e ++ codes "\n"

-- the lines of statements with these numbers
abbrev pub text_lines : Image → List ℕ → List ℕ
text_lines image ks = flat_map (λ k. traced_line k (slice_get image.statements k)) ks

-- a run of at most n statements ends so with these lines: those of the statements that its emulation meets, unless memory ran out or it came to a unit that doesn't tell its tape
pub record IsTraced (image : Image) (n : ℕ) (end : CpuEnd) (lines : List ℕ) (units units' : AllUnits) : Type 0 where
  pub ran : RunsSo image n end (tapes_of units) (tapes_of units')
  pub tells : end ≢ run.Memory → IsTold image (tapes_of units) n → lines ≡ text_lines image (emulation image (tapes_of units) n (budget image n)).met
  pub faults : FaultCause end units units'
