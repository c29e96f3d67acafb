-- The lines of a parameter file, and what each of them says.
use Rattle.std.specs.Prelude.{ℕ, ◌+◌, ◌^◌, List, [], ◌∷◌, length, map, take, drop, codes, position, Option, Some, None, option_map, option_and_then, is_some, Bool, true, not, ◌&&◌, ◌==◌, nat_le, nat_lt, if◌then◌else◌}
use Rattle.std.specs.Str.Parse.{digits_value}
use Rattle.sil_base.specs.Lines as texts
use Rattle.sil_base.specs.Lines.{without_end}
use Rattle.sil_base.specs.Names.{is_word, is_name, is_number}

-- a line ends at LF, and a CR directly before it is dropped; bytes after the last LF are a line
abbrev pub lines_of : List ℕ → List (List ℕ)
lines_of bytes = map without_end (texts.lines_of bytes)

-- a line that is empty or begins with `*`
abbrev pub is_skipped : List ℕ → Bool
is_skipped [] = true
is_skipped (c ∷ rest) = c == 42

-- 1 to 19 digits with a value below 2 ^ 63
abbrev pub is_value : List ℕ → Bool
is_value text = is_number text && nat_le (length text) 19 && nat_lt (digits_value 10 text) (2 ^ 63)

-- a number, or the bytes of a date
pub data Value : Type 0 where
  Number : ℕ → Value
  Date : List ℕ → Value

-- the value that a text gives to a name; any text is one for DATE
abbrev pub value_of : List ℕ → List ℕ → Option Value
value_of name text =
    if is_word name (codes "DATE")
    then Some (Date text)
    else if is_value text then Some (Number (digits_value 10 text)) else None

abbrev pub named : List ℕ → List ℕ → Option (List ℕ × Value)
named name text = if is_name name then option_map (λ value. (name, value)) (value_of name text) else None

-- a name, one blank, and a value: what the line gives where it is of this form
abbrev pub parts_of : List ℕ → Option (List ℕ × Value)
parts_of line = option_and_then (λ at. named (take at line) (drop (at + 1) line)) (position (λ c. c == 32) line)

-- a line that isn't skipped and isn't of the form
abbrev pub breaks_form : List ℕ → Bool
breaks_form line = not (is_skipped line) && not (is_some (parts_of line))

-- a line that gives a value to a name
pub record Entry : Type 0 where
  pub line : ℕ
  pub name : List ℕ
  pub value : Value

abbrev pub with_entry : ℕ → Option (List ℕ × Value) → List Entry → List Entry
with_entry number None entries = entries
with_entry number (Some parts) entries = record { line = number; name = parts.0; value = parts.1 } ∷ entries

-- the entries of lines, the first of which has this number
abbrev pub entries_from : ℕ → List (List ℕ) → List Entry
entries_from number [] = []
entries_from number (line ∷ lines) = with_entry number (parts_of line) (entries_from (number + 1) lines)
