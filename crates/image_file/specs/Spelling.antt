-- The bytes of the parts of an image file. All numbers are little-endian.
use Rattle.std.specs.Prelude.{ℕ, ◌^◌, ◌<◌, List, [], ◌∷◌, ◌++◌, length, codes}
use Rattle.std.specs.List.{flat_map}
use Rattle.sil_base.specs.Bytes.{low_bytes}
use Rattle.layout_params.specs.Parameters.{Settings, settings_numbers}
use Rattle.sil_macros.specs.Macros.{number_of}
use Rattle.image_file.specs.declared.counts.Counts.{Counts}
use Rattle.image_file.specs.Image.{Image, StatementEntry, table_count}
use Rattle.image_file.specs.Version.{version, kinds_part}

-- numbers of n bytes each
unfoldable pub numbers_in : ℕ → List ℕ → List ℕ
numbers_in n xs = flat_map (low_bytes n) xs

-- numbers that fit n bytes each
abbrev pub FitAll : ℕ → List ℕ → Type 0
FitAll n [] = Unit {0}
FitAll n (x ∷ xs) = (x < 256 ^ n) × FitAll n xs

-- the first eight bytes
abbrev pub mark_part : List ℕ
mark_part = codes "SILRV64\n"

abbrev pub version_part : List ℕ
version_part = low_bytes 4 version

unfoldable pub settings_part : Settings → List ℕ
settings_part s = numbers_in 8 (settings_numbers s) ++ s.date

-- the numbers of statements, code words, constant bytes, static cells and tables
abbrev pub counts_list : Counts → List ℕ
counts_list c = c.statements ∷ c.words ∷ c.constants ∷ c.cells ∷ c.tables ∷ []

abbrev pub counts_of : Image → Counts
counts_of i = record {
  statements = length i.statements;
  words = length i.words;
  constants = length i.constants;
  cells = length i.kinds;
  tables = table_count i;
}

unfoldable pub counts_part : Counts → List ℕ
counts_part c = numbers_in 4 (counts_list c)

-- sixteen bytes: the place, the card, the macro's number, and zeros
unfoldable pub entry_part : StatementEntry → List ℕ
entry_part e = low_bytes 8 e.place ++ low_bytes 4 e.card ++ low_bytes 2 (number_of e.name) ++ low_bytes 2 0

-- the one spelling of an image
unfoldable pub spelling : Image → List ℕ
spelling i =
    mark_part
    ++ version_part
    ++ settings_part i.settings
    ++ counts_part (counts_of i)
    ++ flat_map entry_part i.statements
    ++ numbers_in 4 i.words
    ++ i.constants
    ++ i.cells
    ++ kinds_part i.kinds
    ++ i.tables
