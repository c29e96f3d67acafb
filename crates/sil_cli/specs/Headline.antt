-- What an accepted command does, in whole.
use Rattle.std.specs.Prelude.{◌≡◌, ℕ, ◌≤◌, List, [], ◌++◌, length, Option, Some, None, IfSome, ◌⊎◌, Bool, true, false}
use Rattle.std.specs.declared.result.Result.{Result}
use Rattle.std.specs.declared.result.Result.TheVariants.{Ok}
use Rattle.std.specs.FinMap.{get, insert}
use Rattle.sil_base.specs.Causes.{Rose}
use Rattle.sil_base.specs.Files.{Files}
use Rattle.unit_io.specs.Tapes.{Tapes, all_told, finished_tapes, failed_finishes}
use Rattle.unit_io.specs.Units.{AllUnits, tapes_of}
use Rattle.layout_params.specs.Parameters.{Parameters}
use Rattle.layout_params.specs.Entries.{values_of}
use Rattle.layout_params.specs.ParameterFaults.{parameter_fault}
use Rattle.sil_cards.specs.CardParts.{CardParts}
use Rattle.sil_cards.specs.Readings.{cards_of}
use Rattle.sil_model.specs.declared.end.End.{End}
use Rattle.sil_model.specs.declared.program.Program.{Program}
use Rattle.sil_runs.specs.Machine.{machine}
use Rattle.rv_operations.specs.Does.{as_end}
use Rattle.sil_program.specs.Verdicts.{verdict}
use Rattle.sil_install.specs.Installed.{IsInstalled}
use Rattle.image_file.specs.Image.{Image}
use Rattle.sil_cli.specs.Report.{Stage, stage_of, HasInstalled, HasFound}
use Rattle.command_report.specs.declared.ending.Ending.{Ending}
use Rattle.command_report.specs.declared.ending.Ending.TheVariants as ending
use Rattle.command_report.specs.Endings.{status_of, finish_status, has_run}
use Rattle.sil_base.specs.declared.limits.TheConstants.{MAX_FILE_BYTES}
use Rattle.command_report.specs.Noted.{text_of}
use Rattle.command_words.specs.CommandOrders.{SourceNames, CommandOrder, simulates, goes}

-- files of these names: legal parameters with these values, tables, and a source whose cards have no fault and pass the check with this program
pub record HasJob (names : SourceNames) (files : Files) (program : Program) (parameters : Parameters) : Type 0 where
  pub params : List ℕ
  pub params_file : get files names.params ≡ Some params
  pub params_size : length params ≤ MAX_FILE_BYTES
  pub faultless : parameter_fault params ≡ None
  pub values : values_of params ≡ parameters
  pub tables : List ℕ
  pub tables_file : get files names.tables ≡ Some tables
  pub tables_size : length tables ≤ MAX_FILE_BYTES
  pub cards : List CardParts
  pub source : cards_of files names.source ≡ Ok cards
  pub checked : verdict cards tables (values_of params) ≡ Ok program

-- the units after a run that left these tapes: each is finished once, and so many finishes fail
pub record FinishesTapes (tapes : Tapes) (units' : AllUnits) (failed : ℕ) : Type 0 where
  pub tapes_after : tapes_of units' ≡ finished_tapes tapes
  pub failures : failed ≡ failed_finishes tapes

-- the status and the notes of a command that ended so after these lines, with so many finishes that failed
pub record Reports (lines : List ℕ) (end : Ending) (failed code : ℕ) (text text' : Option (List ℕ)) : Type 0 where
  pub status : code ≡ finish_status (status_of end) failed
  pub noted : IfSome text (λ t. text' ≡ Some (t ++ (lines ++ text_of end failed)))

-- a run of a program that ends so and leaves these tapes
pub record Ran (end : End) (tapes : Tapes) (code : ℕ) (units' : AllUnits) (text text' : Option (List ℕ)) (n n' : ℕ) : Type 0 where
  pub failed : ℕ
  pub finishes : all_told tapes ≡ true → FinishesTapes tapes units' failed
  pub reports : (Rose n n' → ⊥) → Reports [] (ending.Ran (as_end end)) failed code text text'

-- the image that is saved is installed, and the run, the status and the notes are the machine's
pub record Does (name : List ℕ) (m : Files) (program : Program) (parameters : Parameters) (end : End) (tapes : Tapes) (code : ℕ) (files' : Option Files) (units' : AllUnits) (text text' : Option (List ℕ)) (n n' : ℕ) : Type 0 where
  pub image : List ℕ
  pub installed : IsInstalled image program parameters
  pub files : files' ≡ Some (insert m name image)
  pub run : Ran end tapes code units' text text' n n'

-- where the words are an accepted `go`, the files have a program, the machine's run ends, and the store doesn't fail, that is done, or memory ran out
abbrev pub Headline : Option CommandOrder → ℕ → Option Files → Option Files → ℕ → ℕ → AllUnits → AllUnits → Option (List ℕ) → Option (List ℕ) → ℕ → ℕ → Type 0
Headline words code files files' b a units units' text text' n n' =
    (names : SourceNames) (name : List ℕ) (steps : ℕ) (m : Files) (program : Program) (parameters : Parameters) (end : End) → words ≡ Some (goes names name steps) → files ≡ Some m → HasJob names m program parameters → (Rose b a → ⊥)
    → let run = machine program parameters (tapes_of units) steps in run.end ≡ Some end
    → (code ≡ 12) ⊎ Does name m program parameters end run.tapes code files' units' text text' n n'

-- the same of `sim`, which saves nothing
abbrev pub SimulatedHeadline : Option CommandOrder → ℕ → Option Files → Option Files → ℕ → ℕ → AllUnits → AllUnits → Option (List ℕ) → Option (List ℕ) → ℕ → ℕ → Type 0
SimulatedHeadline words code files files' b a units units' text text' n n' =
    (names : SourceNames) (steps : ℕ) (m : Files) (program : Program) (parameters : Parameters) (end : End) → words ≡ Some (simulates names steps) → files ≡ Some m → HasJob names m program parameters → (Rose b a → ⊥)
    → let run = machine program parameters (tapes_of units) steps in run.end ≡ Some end
    → (code ≡ 12) ⊎ ((files' ≡ Some m) × Ran end run.tapes code units' text text' n n')

-- ---- every command

-- the units after a command that left these tapes: each is finished once after a run, and as it was without one
abbrev pub LeavesUnits : Bool → Tapes → AllUnits → ℕ → Type 0
LeavesUnits true tapes units' failed = all_told tapes ≡ true → FinishesTapes tapes units' failed
LeavesUnits false tapes units' failed = (tapes_of units' ≡ tapes) × (failed ≡ 0)

-- what was done is this stage
pub record DoesStage (stage : Stage) (code : ℕ) (files' : Option Files) (units' : AllUnits) (text text' : Option (List ℕ)) (n n' : ℕ) : Type 0 where
  pub files : files' ≡ Some stage.files
  pub failed : ℕ
  pub units : LeavesUnits (has_run stage.ending) stage.tapes units' failed
  pub reports : (Rose n n' → ⊥) → Reports stage.lines stage.ending failed code text text'

-- what was done is the command's stage, with some installed image and with what its image file says
pub record DoesReport (order : Option CommandOrder) (m : Files) (tapes : Tapes) (code : ℕ) (files' : Option Files) (units' : AllUnits) (text text' : Option (List ℕ)) (n n' : ℕ) : Type 0 where
  pub image : List ℕ
  pub found : Result Image ℕ
  pub installed : HasInstalled order m image
  pub finds : HasFound order m found
  pub does : (stage : Stage) → stage_of order m tapes image found ≡ Some stage → DoesStage stage code files' units' text text' n n'

-- any words: where the store tells its files and doesn't fail, what was done is their stage, or memory ran out
abbrev pub Reported : Option CommandOrder → ℕ → Option Files → Option Files → ℕ → ℕ → AllUnits → AllUnits → Option (List ℕ) → Option (List ℕ) → ℕ → ℕ → Type 0
Reported words code files files' b a units units' text text' n n' =
    (m : Files) → files ≡ Some m → (Rose b a → ⊥) → (code ≡ 12) ⊎ DoesReport words m (tapes_of units) code files' units' text text' n n'
