-- The words of a line, and the items of a class.
use Rattle.std.specs.Prelude.{ℕ, ◌-◌, Bool, true, false, not, ◌&&◌, ◌||◌, ◌==◌, nat_lt, List, [], ◌∷◌, length, take, drop, slice_index, filter, Option, Some, None, if◌then◌else◌}
use Rattle.std.specs.List.{onto_first}
use Rattle.sil_base.specs.Names.{is_word}
use Rattle.syntax_tables.specs.declared.cutting.Separator.{Separator}
use Rattle.syntax_tables.specs.declared.cutting.Separator.TheVariants.{Blank, Comma}

-- blanks and tabs stand between words, commas between items
abbrev pub separates : Separator → ℕ → Bool
separates Blank c = c == 32 || c == 9
separates Comma c = c == 44

-- whether quotes are open after a byte: each apostrophe opens or closes them
abbrev pub quoted_after : Bool → ℕ → Bool
quoted_after quoted c = if c == 39 then not quoted else quoted

-- the parts of a text between separators outside quotes, by whether quotes are open
abbrev pub open_parts : Separator → Bool → List ℕ → List (List ℕ)
open_parts separator quoted [] = [] ∷ []
open_parts separator quoted (c ∷ cs) =
    if not quoted && separates separator c then [] ∷ open_parts separator false cs else onto_first c (open_parts separator (quoted_after quoted c) cs)

abbrev pub has_bytes : List ℕ → Bool
has_bytes [] = false
has_bytes (c ∷ text) = true

-- the words of a line
abbrev pub words_of : List ℕ → List (List ℕ)
words_of line = filter has_bytes (open_parts Blank false line)

-- the items of a class
abbrev pub items_of : List ℕ → List (List ℕ)
items_of class = open_parts Comma false class

-- what stands in a word after this front, which ends with a bracket, and before the bracket that ends the word
unfoldable pub bracketed : List ℕ → List ℕ → Option (List ℕ)
bracketed front word =
    if nat_lt (length front) (length word) && is_word (take (length front) word) front && (slice_index word (length word - 1) == 41)
    then Some (take (length word - 1 - length front) (drop (length front) word))
    else None
