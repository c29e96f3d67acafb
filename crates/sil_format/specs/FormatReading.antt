-- The format of bytes, as a function: items are read one after another. That it reads just what the grammar spells is
-- proved.
use Rattle.std.specs.Prelude.{◌≡◌, ℕ, zero, suc, List, [], ◌∷◌, length, take, drop, Option, Some, None, is_some, Bool, ◌&&◌, ◌||◌, ◌==◌, nat_le, if◌then◌else◌, option_and_then, Result, MatchResult}
use Rattle.std.specs.Option.{option_map}
use Rattle.sil_format.specs.FormatGrammar.{is_blank, are_blanks, is_digit_or_blank, value_of, is_slash}
use Rattle.sil_format.specs.declared.format.DataKind.{DataKind}
use Rattle.sil_format.specs.declared.format.DataKind.TheVariants.{Integer, Character, Real}
use Rattle.sil_format.specs.declared.format.FormatStop.{FormatStop}
use Rattle.sil_format.specs.declared.format.FormatStop.TheVariants.{Bad}
use Rattle.sil_format.specs.declared.format.Item.{Item}
use Rattle.sil_format.specs.declared.format.Item.TheVariants.{Blanks, Text, NewRecord, Data}

-- an answer is what is read, or Bad where nothing is read; want of memory is free
abbrev pub Answers : {A : Type 0} → Result A FormatStop → Option A → Type 0
Answers answer read = MatchResult answer (λ x. read ≡ Some x) (λ e. e ≡ Bad → read ≡ None)

-- bytes without the blanks at their front
abbrev pub skip_blanks : List ℕ → List ℕ
skip_blanks [] = []
skip_blanks (c ∷ cs) = if is_blank c then skip_blanks cs else c ∷ cs

-- the digits and blanks at the front
abbrev pub number_part : List ℕ → List ℕ
number_part [] = []
number_part (c ∷ cs) = if is_digit_or_blank c then c ∷ number_part cs else []

-- what stands behind them
abbrev pub after_number : List ℕ → List ℕ
after_number [] = []
after_number (c ∷ cs) = if is_digit_or_blank c then after_number cs else c ∷ cs

-- the number of digits and blanks, where it lies between two others
abbrev pub number_in : ℕ → ℕ → List ℕ → Option ℕ
number_in low high bytes =
    if are_blanks bytes then None
    else if nat_le low (value_of bytes) && nat_le (value_of bytes) high then Some (value_of bytes)
    else None

abbrev pub count_in : List ℕ → Option ℕ
count_in bytes = number_in 1 1000 bytes

abbrev pub optional_count_in : List ℕ → Option ℕ
optional_count_in bytes = if are_blanks bytes then Some 1 else count_in bytes

-- a number at the front, and what follows it
abbrev pub number_at : ℕ → ℕ → List ℕ → Option (ℕ × List ℕ)
number_at low high bytes = option_map (λ n. (n, after_number bytes)) (number_in low high (number_part bytes))

-- the digit 1 at the front, and what follows it
abbrev pub character_at : List ℕ → Option (DataKind × List ℕ)
character_at [] = None
character_at (c ∷ cs) = if c == 49 then Some (Character, cs) else None

-- the point and the decimals of a width, and what follows them
abbrev pub decimals_at : ℕ → List ℕ → Option (DataKind × List ℕ)
decimals_at width [] = None
decimals_at width (c ∷ cs) = if c == 46 then option_map (λ p. (Real width p.0, p.1)) (number_at 0 width cs) else None

-- the kind of a data item with this letter, and what follows it
abbrev pub kind_at : ℕ → List ℕ → Option (DataKind × List ℕ)
kind_at letter bytes =
    if letter == 73 then option_map (λ p. (Integer p.0, p.1)) (number_at 1 255 bytes)
    else if letter == 65 then character_at (skip_blanks bytes)
    else if letter == 70 then option_and_then (λ p. decimals_at p.0 p.1) (number_at 1 255 bytes)
    else None

-- a text of so many bytes at the front, and what follows it
abbrev pub text_at : ℕ → List ℕ → Option (Item × List ℕ)
text_at n bytes = if nat_le n (length bytes) then Some (Text (take n bytes), drop n bytes) else None

-- the item with this count and letter, and what follows it
abbrev pub item_with : List ℕ → ℕ → List ℕ → Option (Item × List ℕ)
item_with count letter rest =
    if letter == 47 then (if are_blanks count then Some (NewRecord, rest) else None)
    else if letter == 72 then option_and_then (λ n. text_at n rest) (count_in count)
    else if letter == 88 then option_map (λ n. (Blanks n, rest)) (optional_count_in count)
    else option_and_then (λ n. option_map (λ p. (Data n p.0, p.1)) (kind_at letter rest)) (optional_count_in count)

abbrev pub item_behind : List ℕ → List ℕ → Option (Item × List ℕ)
item_behind count [] = None
item_behind count (letter ∷ rest) = item_with count letter rest

-- the item at the front, and what follows it
abbrev pub item_at : List ℕ → Option (Item × List ℕ)
item_at bytes = item_behind (number_part bytes) (after_number bytes)

-- where the next item is read, by whether a slash came before: nowhere where the format is closed here
abbrev pub next_at : Bool → List ℕ → Option (Option (List ℕ))
next_at slash [] = None
next_at slash (c ∷ cs) =
    if c == 41 then (if are_blanks cs then Some None else None)
    else if c == 44 then Some (Some cs)
    else if c == 47 || slash then Some (Some (c ∷ cs))
    else None

-- what is read there
abbrev pub read_on : (List ℕ → Option (List Item)) → Option (List ℕ) → Option (List Item)
read_on read None = Some []
read_on read (Some rest) = read rest

-- the items up to the closing bracket, of which there are fewer than this number
abbrev pub items_in : ℕ → List ℕ → Option (List Item)
items_in zero bytes = None
items_in (suc most) bytes =
    option_and_then (λ p. option_and_then (λ next. option_map (λ items. p.0 ∷ items) (read_on (items_in most) next)) (next_at (is_slash p.0) (skip_blanks p.1))) (item_at bytes)

-- what stands behind the opening bracket, by what its blanks are followed by
abbrev pub closed_or_items : List ℕ → List ℕ → Option (List Item)
closed_or_items bytes [] = items_in (suc (length bytes)) bytes
closed_or_items bytes (c ∷ cs) = if c == 41 then (if are_blanks cs then Some [] else None) else items_in (suc (length bytes)) bytes

abbrev pub inside_of : List ℕ → Option (List Item)
inside_of bytes = closed_or_items bytes (skip_blanks bytes)

abbrev pub opened : List ℕ → Option (List Item)
opened [] = None
opened (c ∷ cs) = if c == 40 then inside_of cs else None

-- the format of bytes, if they are one
abbrev pub format_of : List ℕ → Option (List Item)
format_of bytes = opened (skip_blanks bytes)

-- the test of bytes that spell a format
unfoldable pub is_format : List ℕ → Bool
is_format bytes = is_some (format_of bytes)
