-- What another version of the file would change: its number, and the bytes of the kinds.
use Rattle.std.specs.Prelude.{ℕ, List}
use Rattle.image_file.specs.declared.version.TheConstants.{VERSION}

abbrev pub version : ℕ
version = VERSION

-- the kinds of the static cells: a byte each, 0 a descriptor, 1 characters
abbrev pub kinds_part : List ℕ → List ℕ
kinds_part kinds = kinds
