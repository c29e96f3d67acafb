-- Images: what a program is installed as.
use Rattle.std.specs.Prelude.{◌≡◌, ℕ, zero, suc, ◌+◌, ◌*◌, ◌/◌, ◌%◌, ◌^◌, ◌<◌, ◌≤◌, List, [], ◌∷◌, length, map, take, drop, All, Bool, true, ◌&&◌, ◌==◌, nat_lt, nat_le, if◌then◌else◌, IsTrue, slice_index}
use Rattle.sil_base.specs.declared.limits.TheConstants.{MAX_CELLS, MAX_CONSTANT_BYTES, MAX_STATEMENTS, MAX_TABLES, MAX_WORDS, TABLE_BYTES}
use Rattle.sil_base.specs.declared.places.TheConstants.{FIRST_WORD}
use Rattle.layout_params.specs.Parameters.{Settings, AreLegalSettings}
use Rattle.sil_macros.specs.declared.names.Macro.{Macro}
use Rattle.layout_params.specs.Areas.{all_cells}
use Rattle.image_file.specs.TableEntries.{entries_fit}

-- where a statement's code begins, the number of its card, and its macro
pub record StatementEntry : Type 0 where
  pub place : ℕ
  pub card : ℕ
  pub name : Macro

-- the settings, the statements, the code words, the constants, the bytes and the kinds (0 a descriptor, 1 characters) of the static cells, and the bytes of the tables
pub record Image : Type 0 where
  pub settings : Settings
  pub statements : List StatementEntry
  pub words : List ℕ
  pub constants : List ℕ
  pub cells : List ℕ
  pub kinds : List ℕ
  pub tables : List ℕ

-- an entry given as a place, a card and a macro
abbrev pub entry_of : ℕ × ℕ × Macro → StatementEntry
entry_of e = record { place = e.0; card = e.1; name = e.2 }

-- the image of these parts
abbrev pub image_of : Settings → List (ℕ × ℕ × Macro) → List ℕ → List ℕ → List ℕ → List ℕ → List ℕ → Image
image_of settings statements words constants cells kinds tables = record {
  settings = settings;
  statements = map entry_of statements;
  words = words;
  constants = constants;
  cells = cells;
  kinds = kinds;
  tables = tables;
}

-- the number of tables
abbrev pub table_count : Image → ℕ
table_count i = length i.tables / TABLE_BYTES

-- places from here on are multiples of 4 that rise strictly, below an end
abbrev pub places_rise : ℕ → ℕ → List StatementEntry → Bool
places_rise least end [] = true
places_rise least end (e ∷ es) = nat_le least e.place && (e.place % 4 == 0) && nat_lt e.place end && places_rise (e.place + 1) end es

-- what an image keeps to
pub record IsImage (i : Image) : Type 0 where
  pub settings : AreLegalSettings i.settings
  pub statements : length i.statements ≤ MAX_STATEMENTS
  pub cards : All (λ e. e.card < 2 ^ 32) i.statements
  pub few_words : length i.words ≤ MAX_WORDS
  pub some_words : 1 ≤ length i.words
  pub wide_words : All (λ w. w < 2 ^ 32) i.words
  pub constants : length i.constants ≤ MAX_CONSTANT_BYTES
  pub cell_count : all_cells i.settings (length i.kinds) ≤ MAX_CELLS
  pub table_bytes : length i.tables ≤ MAX_TABLES * TABLE_BYTES
  pub whole_tables : length i.tables % TABLE_BYTES ≡ 0
  pub places : IsTrue (places_rise FIRST_WORD (FIRST_WORD + 4 * length i.words) i.statements)
  pub cells : length i.cells ≡ length i.kinds * i.settings.sizes.descr
  pub kinds : All (λ k. k ≤ 1) i.kinds
  pub tables : IsTrue (entries_fit (table_count i) (length i.tables / 16) i.tables)
