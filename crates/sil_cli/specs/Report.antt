-- What each command comes to, over files and tapes that are told.
use Rattle.std.specs.Prelude.{◌≡◌, ℕ, ◌+◌, ◌≤◌, Bool, List, [], length, Option, Some, None, option_map, IfSome, IfOk}
use Rattle.std.specs.declared.result.Result.{Result}
use Rattle.std.specs.declared.result.Result.TheVariants.{Ok, Err}
use Rattle.std.specs.FinMap.{insert}
use Rattle.sil_base.specs.Files.{Files}
use Rattle.sil_base.specs.Stores.{ChangesFile}
use Rattle.unit_io.specs.Tapes.{Tapes}
use Rattle.unit_io.specs.Units.{AllUnits}
use Rattle.unit_io.specs.RunEnds.{Run}
use Rattle.layout_params.specs.Areas.{all_cells}
use Rattle.sil_model.specs.declared.end.End.{End}
use Rattle.sil_runs.specs.Machine.{machine}
use Rattle.image_file.specs.Image.{Image}
use Rattle.image_file.specs.ImageGrammar.{IsImageFile, IsFirstWrong}
use Rattle.rv_emulate.specs.declared.end.CpuEnd.{CpuEnd}
use Rattle.rv_emulate.specs.EmulatorRuns.{emulation, budget}
use Rattle.rv_operations.specs.Does.{as_end}
use Rattle.sil_check.specs.Inputs.{on_result}
use Rattle.sil_install.specs.Installed.{IsInstalled}
use Rattle.command_report.specs.declared.ending.Stop.{Stop}
use Rattle.command_report.specs.declared.ending.Stop.TheVariants as stop
use Rattle.command_report.specs.declared.ending.Ending.{Ending}
use Rattle.command_report.specs.declared.ending.Ending.TheVariants as ending
use Rattle.command_words.specs.CommandOrders.{SourceNames, CommandOrder, checks, installs, runs, traces, simulates, lists, goes, demos}
use Rattle.image_runs.specs.Listings.{listing}
use Rattle.image_runs.specs.TracedRuns.{text_lines}
use Rattle.command_report.specs.Endings.{demo_line}
use Rattle.sil_cli.specs.Engines.{Engine, RanSo, MayRefuse}
use Rattle.sil_cli.specs.CommandFiles.{StopCause, job_at, image_at}
use Rattle.sil_cli.specs.DemoJobs.{demo_job}

-- how a command ends, the lines that it tells before the line of its ending, and the files and the tapes that it leaves before its finishes
pub record Stage : Type 0 where
  pub ending : Ending
  pub lines : List ℕ
  pub files : Files
  pub tapes : Tapes

-- a command that runs nothing tells no other lines and leaves the tapes as they were
abbrev pub stands : Ending → Files → Tapes → Option Stage
stands end files tapes = Some (record { ending = end; lines = []; files = files; tapes = tapes })

-- a command that was stopped leaves all as it was
abbrev pub stopped : Files → Tapes → Stop → Option Stage
stopped files tapes stop = stands (ending.Stopped stop) files tapes

-- the end of a run of the abstract machine, with the lines and the files before it: none where it came to a unit that doesn't tell its tape
abbrev pub ran : Run End → List ℕ → Files → Option Stage
ran r lines files = option_map (λ end. record { ending = ending.Ran (as_end end); lines = lines; files = files; tapes = r.tapes }) r.end

-- the same of a run of the emulator
abbrev pub emulated : Run CpuEnd → List ℕ → Files → Option Stage
emulated r lines files = option_map (λ end. record { ending = ending.Ran end; lines = lines; files = files; tapes = r.tapes }) r.end

-- `check SRC TABLES PARAMS`, which tells the statements and all cells
abbrev pub check_command : SourceNames → Files → Tapes → Option Stage
check_command names files tapes =
    on_result (job_at names files) (λ job. stands (ending.Checked (length job.program.statements) (all_cells job.parameters.settings (length job.program.cells))) files tapes) (stopped files tapes)

-- `install SRC TABLES PARAMS IMAGE`, which saves these bytes as the image
abbrev pub install_command : SourceNames → List ℕ → Files → Tapes → List ℕ → Option Stage
install_command names name files tapes image =
    on_result (job_at names files) (λ job. stands (ending.Installed (length image)) (insert files name image) tapes) (stopped files tapes)

-- a run of bytes that are this image's, or no image's by their first wrong part
abbrev pub run_found : Result Image ℕ → ℕ → Files → Tapes → Option Stage
run_found (Ok image) n files tapes = emulated (emulation image tapes n (budget image n)) [] files
run_found (Err part) n files tapes = stopped files tapes (stop.ImageRefused part)

-- `run IMAGE N`, which finds this in the bytes of the file
abbrev pub run_command : List ℕ → ℕ → Files → Tapes → Result Image ℕ → Option Stage
run_command name n files tapes found =
    on_result (image_at name files) (λ bytes. run_found found n files tapes) (stopped files tapes)

-- the same, with a line for each statement that was met
abbrev pub trace_found : Result Image ℕ → ℕ → Files → Tapes → Option Stage
trace_found (Ok image) n files tapes = let r = emulation image tapes n (budget image n) in emulated r (text_lines image r.met) files
trace_found (Err part) n files tapes = stopped files tapes (stop.ImageRefused part)

-- `trace IMAGE N`
abbrev pub trace_command : List ℕ → ℕ → Files → Tapes → Result Image ℕ → Option Stage
trace_command name n files tapes found =
    on_result (image_at name files) (λ bytes. trace_found found n files tapes) (stopped files tapes)

abbrev pub list_found : Result Image ℕ → Files → Tapes → Option Stage
list_found (Ok image) files tapes = Some (record { ending = ending.Listed; lines = listing image; files = files; tapes = tapes })
list_found (Err part) files tapes = stopped files tapes (stop.ImageRefused part)

-- `list IMAGE`, with a line for each statement
abbrev pub list_command : List ℕ → Files → Tapes → Result Image ℕ → Option Stage
list_command name files tapes found =
    on_result (image_at name files) (λ bytes. list_found found files tapes) (stopped files tapes)

-- `sim SRC TABLES PARAMS N`, which runs the abstract machine
abbrev pub sim_command : SourceNames → ℕ → Files → Tapes → Option Stage
sim_command names n files tapes =
    on_result (job_at names files) (λ job. ran (machine job.program job.parameters tapes n) [] files) (stopped files tapes)

-- `go SRC TABLES PARAMS IMAGE N`, which saves these bytes as the image, loads them and runs them
abbrev pub go_command : SourceNames → List ℕ → ℕ → Files → Tapes → List ℕ → Option Stage
go_command names name n files tapes image =
    on_result (job_at names files) (λ job. ran (machine job.program job.parameters tapes n) [] (insert files name image)) (stopped files tapes)

-- `demo N SEED`, which makes its source, installs it as these bytes and runs them without the store
abbrev pub demo_command : ℕ → ℕ → Files → Tapes → List ℕ → Option Stage
demo_command cards seed files tapes image =
    on_result (demo_job cards seed) (λ job. ran (machine job.program job.parameters tapes (cards + 2)) (demo_line cards (length image)) files) (stopped files tapes)

-- any command
abbrev pub command_stage : CommandOrder → Files → Tapes → List ℕ → Result Image ℕ → Option Stage
command_stage (checks names) files tapes image found = check_command names files tapes
command_stage (installs names name) files tapes image found = install_command names name files tapes image
command_stage (runs name n) files tapes image found = run_command name n files tapes found
command_stage (traces name n) files tapes image found = trace_command name n files tapes found
command_stage (simulates names n) files tapes image found = sim_command names n files tapes
command_stage (lists name) files tapes image found = list_command name files tapes found
command_stage (goes names name n) files tapes image found = go_command names name n files tapes image
command_stage (demos cards seed) files tapes image found = demo_command cards seed files tapes image

-- any words, by the bytes of the image that is installed and by what is found in the image file
abbrev pub stage_of : Option CommandOrder → Files → Tapes → List ℕ → Result Image ℕ → Option Stage
stage_of None files tapes image found = stands ending.Words files tapes
stage_of (Some order) files tapes image found = command_stage order files tapes image found

-- an image that files give is an installed one
abbrev pub InstalledOf : SourceNames → Files → List ℕ → Type 0
InstalledOf names files image = IfOk (job_at names files) (λ job. IsInstalled image job.program job.parameters)

-- the same of a command that installs one
abbrev pub HasInstalled : Option CommandOrder → Files → List ℕ → Type 0
HasInstalled None files image = Unit {0}
HasInstalled (Some (checks names)) files image = Unit {0}
HasInstalled (Some (installs names name)) files image = InstalledOf names files image
HasInstalled (Some (runs name n)) files image = Unit {0}
HasInstalled (Some (traces name n)) files image = Unit {0}
HasInstalled (Some (simulates names n)) files image = Unit {0}
HasInstalled (Some (lists name)) files image = Unit {0}
HasInstalled (Some (goes names name n)) files image = InstalledOf names files image
HasInstalled (Some (demos cards seed)) files image = IfOk (demo_job cards seed) (λ job. IsInstalled image job.program job.parameters)

-- what is found in bytes: the image that they spell, or the first part that differs or is cut short
abbrev pub IsFound : Result Image ℕ → List ℕ → Type 0
IsFound (Ok image) bytes = IsImageFile image bytes
IsFound (Err part) bytes = IsFirstWrong part bytes

-- a command that reads an image file finds this in it
abbrev pub HasFound : Option CommandOrder → Files → Result Image ℕ → Type 0
HasFound None files found = Unit {0}
HasFound (Some (checks names)) files found = Unit {0}
HasFound (Some (installs names name)) files found = Unit {0}
HasFound (Some (runs name n)) files found = IfOk (image_at name files) (λ bytes. IsFound found bytes)
HasFound (Some (traces name n)) files found = IfOk (image_at name files) (λ bytes. IsFound found bytes)
HasFound (Some (simulates names n)) files found = Unit {0}
HasFound (Some (lists name)) files found = IfOk (image_at name files) (λ bytes. IsFound found bytes)
HasFound (Some (goes names name n)) files found = Unit {0}
HasFound (Some (demos cards seed)) files found = Unit {0}

-- where files give a program, its image is saved, whatever the units tell
abbrev pub SavesImage : SourceNames → List ℕ → Files → List ℕ → Option Files → Type 0
SavesImage names name files image files' = IfOk (job_at names files) (λ job. files' ≡ Some (insert files name image))

-- the same of a command that saves one; the others leave the files
abbrev pub Saves : Option CommandOrder → Files → List ℕ → Option Files → Type 0
Saves None files image files' = files' ≡ Some files
Saves (Some (checks names)) files image files' = files' ≡ Some files
Saves (Some (installs names name)) files image files' = SavesImage names name files image files'
Saves (Some (runs name n)) files image files' = files' ≡ Some files
Saves (Some (traces name n)) files image files' = files' ≡ Some files
Saves (Some (simulates names n)) files image files' = files' ≡ Some files
Saves (Some (lists name)) files image files' = files' ≡ Some files
Saves (Some (goes names name n)) files image files' = SavesImage names name files image files'
Saves (Some (demos cards seed)) files image files' = files' ≡ Some files

-- a command ends as its stage says, with some installed image and with what its image file says
pub record Comes (order : Option CommandOrder) (files : Files) (tapes : Tapes) (end : Ending) (lines : List ℕ) (files' : Option Files) (tapes' : Tapes) : Type 0 where
  pub image : List ℕ
  pub found : Result Image ℕ
  pub installed : HasInstalled order files image
  pub finds : HasFound order files found
  pub saves : Saves order files image files'
  pub stage : IfSome (stage_of order files tapes image found) (λ s. (end ≡ s.ending) × (lines ≡ s.lines) × (files' ≡ Some s.files) × (tapes' ≡ s.tapes))

-- however a command ends that saves an image, the image's file alone may have changed, and that only where the files give a program
pub record KeepsOthers (names : SourceNames) (name : List ℕ) (files : Files) (files' : Option Files) : Type 0 where
  pub others : ChangesFile name files files'
  pub all : (stop : Stop) → job_at names files ≡ Err stop → files' ≡ Some files

-- and one that saves none leaves all files
abbrev pub Leaves : Option CommandOrder → Files → Option Files → Type 0
Leaves None files files' = files' ≡ Some files
Leaves (Some (checks names)) files files' = files' ≡ Some files
Leaves (Some (installs names name)) files files' = KeepsOthers names name files files'
Leaves (Some (runs name n)) files files' = files' ≡ Some files
Leaves (Some (traces name n)) files files' = files' ≡ Some files
Leaves (Some (simulates names n)) files files' = files' ≡ Some files
Leaves (Some (lists name)) files files' = files' ≡ Some files
Leaves (Some (goes names name n)) files files' = KeepsOthers names name files files'
Leaves (Some (demos cards seed)) files files' = files' ≡ Some files

-- what brings an ending, by whether the store tells its files
abbrev pub EndingCause : Engine → Ending → Bool → ℕ → ℕ → Type 0
EndingCause engine ending.Words stored b a = Unit {0}
EndingCause engine (ending.Stopped stop) stored b a = StopCause (MayRefuse engine stored) stop b a
EndingCause engine (ending.Checked statements cells) stored b a = Unit {0}
EndingCause engine (ending.Installed bytes) stored b a = Unit {0}
EndingCause engine ending.Listed stored b a = Unit {0}
EndingCause engine (ending.Ran end) stored b a = Unit {0}

-- what brings the end of a run, if the ending is one
abbrev pub RunCaused : Engine → Ending → Bool → AllUnits → AllUnits → Type 0
RunCaused engine ending.Words stored units units' = Unit {0}
RunCaused engine (ending.Stopped stop) stored units units' = Unit {0}
RunCaused engine (ending.Checked statements cells) stored units units' = Unit {0}
RunCaused engine (ending.Installed bytes) stored units units' = Unit {0}
RunCaused engine ending.Listed stored units units' = Unit {0}
RunCaused engine (ending.Ran end) stored units units' = RanSo engine end stored units units'

-- the store's count has not fallen, and the ending has its cause
pub record Causes (engine : Engine) (end : Ending) (stored : Bool) (b a : ℕ) : Type 0 where
  pub count : b ≤ a
  pub cause : EndingCause engine end stored b a
