-- The fields of a card.
use Rattle.std.specs.Prelude.{ℕ, ◌==◌, Bool, true, false, not, ◌&&◌, ◌||◌, List, [], ◌∷◌, drop, if◌then◌else◌}
use Rattle.std.specs.List.{list_all, before_first, position_or_len}

-- a blank or a tab
abbrev pub is_blank : ℕ → Bool
is_blank c = c == 32 || c == 9

-- a text from its first byte on that is no blank
abbrev pub after_blanks : List ℕ → List ℕ
after_blanks text = drop (position_or_len (λ c. not (is_blank c)) text) text

-- what follows the first word of a text and the blanks after it
abbrev pub after_word : List ℕ → List ℕ
after_word text = after_blanks (drop (position_or_len is_blank text) text)

-- whether quotes are open after a byte: each apostrophe opens or closes them
abbrev pub quoted_after : Bool → ℕ → Bool
quoted_after quoted c = if c == 39 then not quoted else quoted

-- a text up to its first blank outside quotes
abbrev pub to_open_blank : Bool → List ℕ → List ℕ
to_open_blank quoted [] = []
to_open_blank quoted (c ∷ text) =
    if not quoted && is_blank c then [] else c ∷ to_open_blank (quoted_after quoted c) text

-- the label, which begins in the first column or is empty, the operation, and the operands; the rest is a comment
pub record Fields : Type 0 where
  pub label : List ℕ
  pub operation : List ℕ
  pub operands : List ℕ

unfoldable pub fields_of : List ℕ → Fields
fields_of text = record {
  label = before_first is_blank text;
  operation = before_first is_blank (after_word text);
  operands = to_open_blank false (after_word (after_word text));
}

-- a text that begins with `*`, or has nothing but blanks
unfoldable pub is_comment : List ℕ → Bool
is_comment [] = true
is_comment (c ∷ text) = c == 42 || list_all is_blank (c ∷ text)
