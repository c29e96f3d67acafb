-- The lines of a text.
use Rattle.std.specs.Prelude.{ℕ, ◌-◌, ◌==◌, List, [], ◌∷◌, length, take, slice_index, if◌then◌else◌}
use Rattle.std.specs.Str.Lines.{strip_carriage_return}

-- lines with one more byte in front of the first
abbrev pub onto_lines : ℕ → List (List ℕ) → List (List ℕ)
onto_lines c [] = (c ∷ []) ∷ []
onto_lines c (line ∷ lines) = (c ∷ line) ∷ lines

-- the lines of a text, each with the LF that ends it; bytes after the last LF are a line
abbrev pub lines_of : List ℕ → List (List ℕ)
lines_of [] = []
lines_of (c ∷ text) = if c == 10 then (c ∷ []) ∷ lines_of text else onto_lines c (lines_of text)

-- a line without the LF that ends it, and without a CR directly before that
abbrev pub without_end : List ℕ → List ℕ
without_end line =
    if slice_index line (length line - 1) == 10 then strip_carriage_return (take (length line - 1) line) else line
