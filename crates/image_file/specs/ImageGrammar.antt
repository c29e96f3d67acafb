-- The grammar of image files: a relation between images and bytes, part by part.
use Rattle.std.specs.Prelude.{◌≡◌, ℕ, ◌-◌, ◌+◌, ◌*◌, ◌/◌, ◌^◌, ◌<◌, ◌≤◌, List, [], ◌∷◌, ◌++◌, length, take, All, IsTrue}
use Rattle.std.specs.List.{flat_map}
use Rattle.sil_base.specs.declared.limits.TheConstants.{MAX_CELLS, MAX_CONSTANT_BYTES, MAX_STATEMENTS, MAX_TABLES, MAX_WORDS, TABLE_BYTES}
use Rattle.sil_base.specs.declared.places.TheConstants.{FIRST_WORD}
use Rattle.layout_params.specs.Parameters.{Settings, AreLegalSettings}
use Rattle.layout_params.specs.Areas.{all_cells}
use Rattle.image_file.specs.declared.stop.ImageStop.{ImageStop}
use Rattle.image_file.specs.declared.stop.ImageStop.TheVariants as stop
use Rattle.image_file.specs.declared.counts.Counts.{Counts}
use Rattle.image_file.specs.TableEntries.{entries_fit}
use Rattle.image_file.specs.Image.{Image, places_rise}
use Rattle.image_file.specs.Spelling.{FitAll, counts_list, counts_of, mark_part, version_part, settings_part, counts_part, entry_part, numbers_in}
use Rattle.image_file.specs.Version.{kinds_part}

-- the parts in their order: the first eight bytes, the version, the parameters and the date, the counts, the limits on the counts, the statements, the code words, the constants, the static cells, their kinds, the tables, and that nothing follows
pub data Part : Type 0 where
  MarkPart : Part
  VersionPart : Part
  SettingsPart : Part
  CountsPart : Part
  LimitsPart : Part
  StatementsPart : Part
  WordsPart : Part
  ConstantsPart : Part
  CellsPart : Part
  KindsPart : Part
  TablesPart : Part
  EndPart : Part

-- those by which the others are read, and the others
abbrev pub head_parts : List Part
head_parts = MarkPart ∷ VersionPart ∷ SettingsPart ∷ CountsPart ∷ LimitsPart ∷ []

abbrev pub body_parts : List Part
body_parts = StatementsPart ∷ WordsPart ∷ ConstantsPart ∷ CellsPart ∷ KindsPart ∷ TablesPart ∷ EndPart ∷ []

abbrev pub parts : List Part
parts = head_parts ++ body_parts

-- the limits on the counts
pub record AreWithin (s : Settings) (c : Counts) : Type 0 where
  pub statements : c.statements ≤ MAX_STATEMENTS
  pub some_words : 1 ≤ c.words
  pub few_words : c.words ≤ MAX_WORDS
  pub constants : c.constants ≤ MAX_CONSTANT_BYTES
  pub cells : all_cells s c.cells ≤ MAX_CELLS
  pub tables : c.tables ≤ MAX_TABLES

-- bytes begin with this part of an image, by these counts, and the rest follows
abbrev pub Begins : Part → Counts → Image → List ℕ → List ℕ → Type 0
Begins MarkPart c i bytes rest = bytes ≡ mark_part ++ rest
Begins VersionPart c i bytes rest = bytes ≡ version_part ++ rest
Begins SettingsPart c i bytes rest = (bytes ≡ settings_part i.settings ++ rest) × AreLegalSettings i.settings
Begins CountsPart c i bytes rest = (bytes ≡ counts_part c ++ rest) × FitAll 4 (counts_list c)
Begins LimitsPart c i bytes rest = (bytes ≡ rest) × AreWithin i.settings c
Begins StatementsPart c i bytes rest =
    (bytes ≡ flat_map entry_part i.statements ++ rest) × (length i.statements ≡ c.statements) × IsTrue (places_rise FIRST_WORD (FIRST_WORD + 4 * c.words) i.statements) × All (λ e. e.card < 2 ^ 32) i.statements
Begins WordsPart c i bytes rest = (bytes ≡ numbers_in 4 i.words ++ rest) × (length i.words ≡ c.words) × All (λ w. w < 2 ^ 32) i.words
Begins ConstantsPart c i bytes rest = (bytes ≡ i.constants ++ rest) × (length i.constants ≡ c.constants)
Begins CellsPart c i bytes rest = (bytes ≡ i.cells ++ rest) × (length i.cells ≡ c.cells * i.settings.sizes.descr)
Begins KindsPart c i bytes rest = (bytes ≡ kinds_part i.kinds ++ rest) × (length i.kinds ≡ c.cells) × All (λ k. k ≤ 1) i.kinds
Begins TablesPart c i bytes rest = (bytes ≡ i.tables ++ rest) × (length i.tables ≡ c.tables * TABLE_BYTES) × IsTrue (entries_fit c.tables (length i.tables / 16) i.tables)
Begins EndPart c i bytes rest = (bytes ≡ []) × (rest ≡ [])

-- these parts stand one after another, and the rest follows
abbrev pub Stand : List Part → Counts → Image → List ℕ → List ℕ → Type 0
Stand [] c i bytes rest = bytes ≡ rest
Stand (p ∷ ps) c i bytes rest = (more : List ℕ) × Begins p c i bytes more × Stand ps c i more rest

-- bytes are the file of an image
pub record IsImageFile (i : Image) (bytes : List ℕ) : Type 0 where
  pub stand : Stand parts (counts_of i) i bytes []

-- bytes begin with the first k parts of some image
pub record BeginSo (k : ℕ) (bytes : List ℕ) : Type 0 where
  pub counts : Counts
  pub image : Image
  pub rest : List ℕ
  pub stand : Stand (take k parts) counts image bytes rest

-- the k-th part, counted from 1, is the first that differs or is cut short
pub record IsFirstWrong (k : ℕ) (bytes : List ℕ) : Type 0 where
  pub before : BeginSo (k - 1) bytes
  pub wrong : ¬ BeginSo k bytes

-- why bytes are refused; want of memory has no cause
abbrev pub IsRefused : ImageStop → List ℕ → Type 0
IsRefused (stop.Part k) bytes = IsFirstWrong k bytes
IsRefused stop.Memory bytes = Unit {0}
