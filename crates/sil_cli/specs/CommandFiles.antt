-- Files that a command reads and writes.
use Rattle.std.specs.Prelude.{◌≡◌, ℕ, List, Option, Some}
use Rattle.std.specs.declared.result.Result.{Result}
use Rattle.std.specs.declared.result.Result.TheVariants.{Ok, Err}
use Rattle.std.specs.FinMap.{insert}
use Rattle.sil_base.specs.Causes.{Rose}
use Rattle.sil_base.specs.Files.{Files}
use Rattle.sil_base.specs.Stores.{ChangesFile}
use Rattle.sil_base.specs.Loads.{loaded, stopping}
use Rattle.sil_check.specs.SourceNames.{Names}
use Rattle.sil_check.specs.CheckedPrograms.{Job}
use Rattle.sil_check.specs.Inputs.{checked_of}
use Rattle.command_report.specs.declared.ending.Stop.{Stop}
use Rattle.command_report.specs.declared.ending.Stop.TheVariants as stop
use Rattle.command_report.specs.Endings.{stop_by, unloaded_by}
use Rattle.command_words.specs.CommandOrders.{SourceNames}
use Rattle.sil_cli.specs.declared.files.TheConstants.{MAX_IMAGE_BYTES}

-- the names of the files that a program is made from
abbrev pub names_of : SourceNames → Names
names_of names = record { source = names.source; tables = names.tables; params = names.params }

-- the program and the parameters that the files of these names give, or the stop
abbrev pub job_at : SourceNames → Files → Result Job Stop
job_at names files = stopping stop_by (checked_of (names_of names) files)

-- the bytes of an image file, or the stop
abbrev pub image_at : List ℕ → Files → Result (List ℕ) Stop
image_at name files = stopping unloaded_by (loaded files name MAX_IMAGE_BYTES)

-- a stop at a file names the one that was asked for
abbrev pub NamesFile : List ℕ → Stop → Type 0
NamesFile asked (stop.Missing name) = name ≡ asked
NamesFile asked (stop.TooLong name) = name ≡ asked
NamesFile asked (stop.StoreFault name) = name ≡ asked
NamesFile asked _ = Unit {0}

-- a stop by a store fault comes only where the store's count rose, and an image is refused only where that may be
abbrev pub StopCause : Type 0 → Stop → ℕ → ℕ → Type 0
StopCause refuses (stop.StoreFault name) before now = Rose before now
StopCause refuses (stop.Missing name) before now = Unit {0}
StopCause refuses (stop.TooLong name) before now = Unit {0}
StopCause refuses (stop.Parameters fault) before now = Unit {0}
StopCause refuses (stop.Faults faults) before now = Unit {0}
StopCause refuses stop.NotBuilt before now = Unit {0}
StopCause refuses (stop.ImageRefused part) before now = refuses
StopCause refuses stop.Memory before now = Unit {0}

-- what a save leaves of a store that tells its files
abbrev pub SavesOr : {T E : Type 0} → Result T E → List ℕ → List ℕ → Files → Option Files → Type 0
SavesOr (Ok done) name bytes before after = after ≡ Some (insert before name bytes)
SavesOr (Err e) name bytes before after = ChangesFile name before after
