-- What the words that are emitted for a program are for.
use Rattle.std.specs.Prelude.{◌≡◌, ℕ, List, map}
use Rattle.layout_params.specs.Parameters.{Parameters}
use Rattle.sil_model.specs.declared.program.Program.{Program}
use Rattle.image_file.specs.Image.{Image}
use Rattle.rv_emit.specs.Parts.{IsImageOf}
use Rattle.sil_install.specs.Installed.{Behaves}

-- any image of the program with these words and places behaves as the program
abbrev pub BehaveAs : Program → Parameters → List ℕ → List ℕ → Type 0
BehaveAs program parameters words places =
    (image : Image) → IsImageOf image program parameters.settings → image.words ≡ words → map (λ e. e.place) image.statements ≡ places → Behaves image program parameters
