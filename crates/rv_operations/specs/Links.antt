-- What an operation is linked to: the number of a constant, the place of a jump, and the text of a format.
use Rattle.std.specs.Prelude.{ℕ, ◌+◌, ◌*◌, List, [], length, take, get_or, sum_by}
use Rattle.std.specs.Int.{w64, cast_unsigned}
use Rattle.sil_base.specs.Bytes.{number}
use Rattle.sil_base.specs.declared.places.TheConstants.{FIRST_CELL, FIRST_CONSTANT}
use Rattle.layout_params.specs.Areas.{hidden_cells, all_cells}
use Rattle.layout_params.specs.Parameters.{Settings}
use Rattle.sil_micro.specs.declared.op.Fixed.{Fixed}
use Rattle.sil_micro.specs.declared.op.Fixed.TheVariants.{Number, Descr, Obsiz, Sttl, Ttl, Date, Hidden, Dynamic, Stack, Cells}
use Rattle.sil_micro.specs.declared.op.Op.{Op}
use Rattle.sil_micro.specs.declared.op.Op.TheVariants.{Const, Jump, JumpIf, UnitCall}
use Rattle.sil_micro.specs.declared.op.Text.{Text}
use Rattle.sil_micro.specs.declared.op.Text.TheVariants.{Format}
use Rattle.rv_operations.specs.declared.places.Links.{Links}
use Rattle.rv_operations.specs.CodePlaces.{Places, target_place}

abbrev pub cell_place : Settings → ℕ → ℕ
cell_place settings cells = FIRST_CELL + cells * settings.sizes.descr

-- the bits of a fixed number
abbrev pub fixed_bits : Settings → ℕ → Fixed → ℕ
fixed_bits settings statics (Number n) = cast_unsigned w64 n
fixed_bits settings statics Descr = settings.sizes.descr
fixed_bits settings statics Obsiz = settings.bucket_count
fixed_bits settings statics Sttl = settings.string_title_flag
fixed_bits settings statics Ttl = settings.title_flag
fixed_bits settings statics Date = number settings.date
fixed_bits settings statics Hidden = cell_place settings statics
fixed_bits settings statics Dynamic = cell_place settings (statics + hidden_cells settings)
fixed_bits settings statics Stack = cell_place settings (statics + hidden_cells settings + settings.dynamic_size)
fixed_bits settings statics Cells = all_cells settings statics

-- where the text of a format stands among the constants, which are the texts one after another
abbrev pub format_place : List (List ℕ) → ℕ → ℕ
format_place formats i = FIRST_CONSTANT + sum_by length (take i formats)

abbrev pub format_length : List (List ℕ) → ℕ → ℕ
format_length formats i = length (get_or formats i [])

abbrev pub no_links : Links
no_links = record { number = 0; to = 0; text = 0; text_len = 0 }

abbrev pub text_links : List (List ℕ) → Text → Links
text_links formats (Format i) = record no_links { text = format_place formats i; text_len = format_length formats i }
text_links formats _ = no_links

-- what an operation is linked to, by the settings, the number of static cells, the formats, and the places
abbrev pub links_of : Settings → ℕ → List (List ℕ) → Places → Op → Links
links_of settings statics formats places (Const to value) = record no_links { number = fixed_bits settings statics value }
links_of settings statics formats places (Jump to) = record no_links { to = target_place places to }
links_of settings statics formats places (JumpIf test left right to) = record no_links { to = target_place places to }
links_of settings statics formats places (UnitCall call unit to text values) = text_links formats text
links_of settings statics formats places _ = no_links
