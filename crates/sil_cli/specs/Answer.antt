-- What the top call answers.
use Rattle.std.specs.Prelude.{◌≡◌, ◌≢◌, ◌⊎◌, ◌++◌, ◌&&◌, ℕ, List, Option, Some, None, IfSome, is_some, Bool, true, false}
use Rattle.std.specs.declared.result.Result.{Result}
use Rattle.std.specs.declared.result.Result.TheVariants.{Ok, Err}
use Rattle.sil_base.specs.Files.{Files}
use Rattle.sil_base.specs.declared.sink.Put.{Put}
use Rattle.unit_io.specs.Tapes.{all_told, finished_tapes, failed_finishes}
use Rattle.unit_io.specs.Units.{AllUnits, tapes_of, FinishesAll}
use Rattle.command_report.specs.declared.ending.Ending.{Ending}
use Rattle.command_report.specs.declared.ending.Ending.TheVariants as ending
use Rattle.command_report.specs.Endings.{status_of, is_free, is_free_end, has_run, finish_status}
use Rattle.command_report.specs.Noted.{Noted, settled, text_of}
use Rattle.image_file.specs.ImageGrammar.{IsFirstWrong}
use Rattle.sil_cli.specs.Engines.{Engine, Idle, Reader, Machine, OwnImage, SavedImage, AnyImage, engine_of}
use Rattle.sil_cli.specs.DemoJobs.{demo_job}
use Rattle.sil_cli.specs.Report.{Comes, Leaves, Causes, RunCaused}
use Rattle.command_report.specs.declared.ending.Stop.{Stop}
use Rattle.command_report.specs.declared.ending.Stop.TheVariants as stops
use Rattle.sil_cli.specs.CommandFiles.{job_at, image_at}
use Rattle.command_words.specs.CommandOrders.{CommandOrder, checks, installs, runs, traces, simulates, lists, goes, demos}
use Rattle.sil_base.specs.declared.line.Fault.{Fault}

-- the finishes that follow a run, and none without one
abbrev pub Finishes : Bool → AllUnits → AllUnits → ℕ → Type 0
Finishes true before after failed = FinishesAll before after failed × (all_told (tapes_of before) ≡ true → (failed ≡ failed_finishes (tapes_of before)) × (tapes_of after ≡ finished_tapes (tapes_of before)))
Finishes false before after failed = (after ≡ before) × (failed ≡ 0)

-- the words are refused, or memory ran out as they were read
abbrev pub IsRefusal : Ending → Type 0
IsRefusal end = (end ≡ ending.Words) ⊎ (end ≡ ending.Stopped stops.Memory)

-- the words are refused just where they give no command
abbrev pub RefusesWords : Option CommandOrder → Ending → Type 0
RefusesWords order end = (order ≡ None → IsRefusal end) × (end ≡ ending.Words → order ≡ None)

-- what is loaded, or the stop, stops a run so: the file can't be had, or its bytes are no image by their first wrong part
abbrev pub StopsRun : Result (List ℕ) Stop → Stop → Type 0
StopsRun (Ok bytes) stop = (part : ℕ) × (stop ≡ stops.ImageRefused part) × IsFirstWrong part bytes
StopsRun (Err e) stop = stop ≡ e

-- a command is stopped so by its files
abbrev pub StopsSo : Option CommandOrder → Files → Stop → Type 0
StopsSo None m stop = ⊥
StopsSo (Some (checks names)) m stop = job_at names m ≡ Err stop
StopsSo (Some (installs names name)) m stop = job_at names m ≡ Err stop
StopsSo (Some (runs name n)) m stop = StopsRun (image_at name m) stop
StopsSo (Some (traces name n)) m stop = StopsRun (image_at name m) stop
StopsSo (Some (simulates names n)) m stop = job_at names m ≡ Err stop
StopsSo (Some (lists name)) m stop = StopsRun (image_at name m) stop
StopsSo (Some (goes names name n)) m stop = job_at names m ≡ Err stop
StopsSo (Some (demos cards seed)) m stop = demo_job cards seed ≡ Err stop

-- how a command ends, and the lines that it tells before that: its causes; what it leaves; what stops it; and, unless a fault of the store or want of memory came first, what its stage says where the files are told
pub record Performs (order : Option CommandOrder) (end : Ending) (lines : List ℕ) (files files' : Option Files) (b a : ℕ) (units units' : AllUnits) : Type 0 where
  pub words : RefusesWords order end
  pub causes : Causes (engine_of order) end (is_some files) b a
  pub ran : RunCaused (engine_of order) end (is_some files) units units'
  pub still : has_run end ≡ false → units' ≡ units
  pub leaves : IfSome files (λ m. Leaves order m files')
  pub stops : IfSome files (λ m. (stop : Stop) → end ≡ ending.Stopped stop → is_free stop ≡ false → StopsSo order m stop)
  pub told : IfSome files (λ m. is_free_end end ≡ false → Comes order m (tapes_of units) end lines files' (tapes_of units'))

-- what came of a command before the line of its ending: how it ended, and the lines that were noted up to the first put that was not Ok
pub record Tells (order : Option CommandOrder) (end : Ending) (put : Put) (files files' : Option Files) (b a : ℕ) (units units' : AllUnits) (text text' : Option (List ℕ)) (n n' : ℕ) : Type 0 where
  pub lines : List ℕ
  pub performs : Performs order end lines files files' b a units units'
  pub noted : Noted put lines text text' n n'

-- the whole call: an ending, the lines before its own, the units after it, the finishes and the notes
pub record Answers (order : Option CommandOrder) (code : ℕ) (files files' : Option Files) (b a : ℕ) (units units' : AllUnits) (text text' : Option (List ℕ)) (n n' : ℕ) : Type 0 where
  pub ending : Ending
  pub lines : List ℕ
  pub between : AllUnits
  pub failed : ℕ
  pub put : Put
  pub performs : Performs order ending lines files files' b a units between
  pub finishes : Finishes (has_run ending) between units' failed
  pub noted : Noted put (lines ++ text_of ending failed) text text' n n'
  pub status : code ≡ settled put (finish_status (status_of ending) failed)

-- where the files are told, they stop the command so
abbrev pub IsStopped : Option CommandOrder → Option Files → (Stop → Type 0) → Type 0
IsStopped order files P = IfSome files (λ m. (stop : Stop) × StopsSo order m stop × P stop)

-- the stop names a file that isn't there
abbrev pub IsMissing : Stop → Type 0
IsMissing stop = (name : List ℕ) × (stop ≡ stops.Missing name)

-- the stop names a file that is too long
abbrev pub IsTooLong : Stop → Type 0
IsTooLong stop = (name : List ℕ) × (stop ≡ stops.TooLong name)

-- the stop tells the fault of the parameters
abbrev pub IsParameterFault : Stop → Type 0
IsParameterFault stop = (fault : Fault) × (stop ≡ stops.Parameters fault)

-- the stop tells the faults of the source
abbrev pub AreFaults : Stop → Type 0
AreFaults stop = (faults : List Fault) × (stop ≡ stops.Faults faults)

-- the stop tells the part of an image that is wrong
abbrev pub IsImageRefusal : Stop → Type 0
IsImageRefusal stop = (part : ℕ) × (stop ≡ stops.ImageRefused part)

-- a code, or what a fault of the store, want of memory or a fault of the notes puts in its place
abbrev pub IsUnless : ℕ → ℕ → Type 0
IsUnless expected code = (code ≡ expected) ⊎ (code ≡ 10) ⊎ (code ≡ 12) ⊎ (code ≡ 14)

-- a code, or what want of memory or a fault of the notes puts in its place
abbrev pub IsNoted : ℕ → ℕ → Type 0
IsNoted expected code = (code ≡ expected) ⊎ (code ≡ 12) ⊎ (code ≡ 14)

-- only a command that takes any image answers these: an image refused, and an end that no program has, but over units that don't tell their tapes or a store that doesn't tell its files
abbrev pub NeverAnswers : Engine → ℕ → Bool → Bool → Type 0
NeverAnswers Idle code stored told = (code ≢ 5) × (code ≢ 9)
NeverAnswers Reader code stored told = code ≢ 9
NeverAnswers Machine code stored told = (code ≢ 5) × (code ≢ 9)
NeverAnswers OwnImage code stored told = (code ≢ 5) × (code ≡ 9 → told ≡ false)
NeverAnswers SavedImage code stored told = (code ≡ 5 → stored ≡ false) × (code ≡ 9 → (stored && told) ≡ false)
NeverAnswers AnyImage code stored told = Unit {0}

abbrev pub IsNever : Option CommandOrder → ℕ → Option Files → AllUnits → Type 0
IsNever order code files units = NeverAnswers (engine_of order) code (is_some files) (all_told (tapes_of units))
