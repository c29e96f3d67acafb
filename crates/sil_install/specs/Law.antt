-- The laws of installed images and of programs that are installed.
use Rattle.std.specs.Prelude.{◌≡◌, ℕ, Bool, false}
use Rattle.layout_params.specs.Parameters.{Parameters}
use Rattle.sil_model.specs.declared.program.Program.{Program}
use Rattle.sil_model.specs.Prints.{IsSilent}
use Rattle.sil_runs.specs.StepLaws.{IsSteady}
use Rattle.sil_program.specs.Built.{AreBuilt}
use Rattle.macro_expand.specs.Expanded.{AreExpanded}
use Rattle.image_file.specs.Image.{Image}
use Rattle.rv_emit.specs.Parts.{IsImageOf}
use Rattle.sil_install.specs.Ways.{CarriesOut}
use Rattle.sil_install.specs.Installed.{Behaves}

-- an image whose code carries out each statement, and makes call 3 for no program that is silent, behaves as the program
abbrev pub LawOfInstalledImages : Type 0
LawOfInstalledImages =
    (image : Image) (program : Program) (parameters : Parameters) (last : ℕ) (prints : Bool) → IsSteady program parameters → IsImageOf image program parameters.settings → CarriesOut image program parameters last prints → (IsSilent program → prints ≡ false) → Behaves image program parameters

-- a program of macros that are installed so far is one that is expanded
abbrev pub LawOfBuiltPrograms : Type 0
LawOfBuiltPrograms = (program : Program) → AreBuilt program → AreExpanded program
