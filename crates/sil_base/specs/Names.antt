-- Words, names and numbers in texts.
use Rattle.std.specs.Prelude.{ℕ, List, [], ◌∷◌, length, map, Bool, false, ◌&&◌, nat_eq, nat_le}
use Rattle.std.specs.Borrow.{Bor}
use Rattle.std.specs.Char.{is_ascii_alphabetic, is_ascii_alphanumeric, is_ascii_digit}
use Rattle.std.specs.Cmp.Lexicographic.{pointwise}
use Rattle.std.specs.List.{list_all}
use Rattle.std.specs.Str.Parse.{digits_value}

-- texts by their bytes
abbrev pub texts_of : List (Bor (List ℕ)) → List (List ℕ)
texts_of texts = map (λ text. text.now) texts

-- a text is this word
abbrev pub is_word : List ℕ → List ℕ → Bool
is_word text word = pointwise nat_eq text word

-- a name: 1 to 16 ASCII letters or digits, the first a letter
abbrev pub is_name : List ℕ → Bool
is_name [] = false
is_name (first ∷ rest) = is_ascii_alphabetic first && list_all is_ascii_alphanumeric rest && nat_le (length rest) 15

-- decimal digits, one at least
abbrev pub is_number : List ℕ → Bool
is_number [] = false
is_number (first ∷ rest) = is_ascii_digit first && list_all is_ascii_digit rest

-- the number that digits stand for
abbrev pub value_of : List ℕ → ℕ
value_of digits = digits_value 10 digits
