-- The lines of an image's statements.
use Rattle.std.specs.Prelude.{ℕ, zero, suc, ◌+◌, ◌-◌, ◌*◌, ◌/◌, List, [], ◌++◌, length, Option, Some, None, codes, decimal, slice_get}
use Rattle.sil_base.specs.declared.places.TheConstants.{FIRST_WORD}
use Rattle.sil_macros.specs.MacroRows.{row}
use Rattle.image_file.specs.Image.{Image, StatementEntry}

-- a statement's number, the number of its card, and its macro
abbrev pub entry_text : ℕ → StatementEntry → List ℕ
entry_text k e = decimal k ++ codes " " ++ decimal e.card ++ codes " " ++ (row e.name).name

-- the place after the code
abbrev pub code_end : Image → ℕ
code_end image = FIRST_WORD + 4 * length image.words

abbrev pub place_or : ℕ → Option StatementEntry → ℕ
place_or last None = last
place_or last (Some e) = e.place

-- the place of the statement after this one, or of the end of the code
abbrev pub next_place : Image → ℕ → ℕ
next_place image k = place_or (code_end image) (slice_get image.statements (k + 1))

-- the line of a statement in a list: also its place, and the words to the next place
abbrev pub listed_line : Image → ℕ → Option StatementEntry → List ℕ
listed_line image k None = []
listed_line image k (Some e) = entry_text k e ++ codes " " ++ decimal e.place ++ codes " " ++ decimal ((next_place image k - e.place) / 4) ++ codes "\n"

-- the lines of the first n statements
abbrev pub listed_lines : Image → ℕ → List ℕ
listed_lines image zero = []
listed_lines image (suc k) = listed_lines image k ++ listed_line image k (slice_get image.statements k)

-- those of all statements
abbrev pub listing : Image → List ℕ
listing image = listed_lines image (length image.statements)
