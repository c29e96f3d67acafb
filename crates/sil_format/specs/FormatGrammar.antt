-- The grammar of formats: which bytes spell which items, a definition for each production.
-- 32 is the blank, 40 and 41 are the brackets, 44 is the comma, 46 the point, 47 the slash and 49 the digit 1; 65, 70,
-- 72, 73 and 88 are the letters A, F, H, I and X.
use Rattle.std.specs.Prelude.{◌≡◌, ℕ, ◌≤◌, List, [], ◌∷◌, ◌++◌, length, Bool, true, false, not, ◌||◌, ◌==◌, ◌⊎◌, IsTrue, filter}
use Rattle.std.specs.Char.{is_ascii_digit}
use Rattle.std.specs.List.{list_all}
use Rattle.std.specs.Str.Parse.{digits_value}
use Rattle.sil_format.specs.declared.format.DataKind.{DataKind}
use Rattle.sil_format.specs.declared.format.DataKind.TheVariants.{Integer, Character, Real}
use Rattle.sil_format.specs.declared.format.Item.{Item}
use Rattle.sil_format.specs.declared.format.Item.TheVariants.{Blanks, Text, NewRecord, Data}

abbrev pub is_blank : ℕ → Bool
is_blank c = c == 32

-- blanks only, or nothing
abbrev pub are_blanks : List ℕ → Bool
are_blanks bytes = list_all is_blank bytes

abbrev pub is_digit_or_blank : ℕ → Bool
is_digit_or_blank c = is_ascii_digit c || is_blank c

-- the number that digits stand for, whose blanks are skipped
abbrev pub value_of : List ℕ → ℕ
value_of bytes = digits_value 10 (filter (λ c. not (is_blank c)) bytes)

-- a number between two others: digits and blanks, one digit at least
abbrev pub SpellsNumber : ℕ → ℕ → List ℕ → ℕ → Type 0
SpellsNumber low high bytes n =
    IsTrue (list_all is_digit_or_blank bytes) × (are_blanks bytes ≡ false) × (n ≡ value_of bytes) × (low ≤ n) × (n ≤ high)

-- a count: 1 to 1,000
abbrev pub SpellsCount : List ℕ → ℕ → Type 0
SpellsCount bytes n = SpellsNumber 1 1000 bytes n

-- a count that may be missing, and is 1 then
abbrev pub SpellsOptionalCount : List ℕ → ℕ → Type 0
SpellsOptionalCount bytes n = SpellsCount bytes n ⊎ (IsTrue (are_blanks bytes) × (n ≡ 1))

-- a width: 1 to 255
abbrev pub SpellsWidth : List ℕ → ℕ → Type 0
SpellsWidth bytes width = SpellsNumber 1 255 bytes width

-- Iw, A1 or Fw.d, where d is at most w
abbrev pub SpellsKind : List ℕ → DataKind → Type 0
SpellsKind bytes (Integer width) = (digits : List ℕ) × (bytes ≡ 73 ∷ digits) × SpellsWidth digits width
SpellsKind bytes Character = (blanks : List ℕ) × (bytes ≡ 65 ∷ (blanks ++ 49 ∷ [])) × IsTrue (are_blanks blanks)
SpellsKind bytes (Real width decimals) =
    (first : List ℕ) × (second : List ℕ) × (bytes ≡ 70 ∷ (first ++ 46 ∷ second)) × SpellsWidth first width × SpellsNumber 0 width second decimals

-- nX, nH with exactly n bytes behind it, a slash, or a data item with its count; blanks may stand before each
abbrev pub SpellsItem : List ℕ → Item → Type 0
SpellsItem bytes (Blanks n) = (count : List ℕ) × (bytes ≡ count ++ 88 ∷ []) × SpellsOptionalCount count n
SpellsItem bytes (Text text) = (count : List ℕ) × (bytes ≡ count ++ 72 ∷ text) × SpellsCount count (length text)
SpellsItem bytes NewRecord = (blanks : List ℕ) × (bytes ≡ blanks ++ 47 ∷ []) × IsTrue (are_blanks blanks)
SpellsItem bytes (Data n kind) = (count : List ℕ) × (rest : List ℕ) × (bytes ≡ count ++ rest) × SpellsOptionalCount count n × SpellsKind rest kind

abbrev pub is_slash : Item → Bool
is_slash (Blanks n) = false
is_slash (Text text) = false
is_slash NewRecord = true
is_slash (Data n kind) = false

-- what stands between two items, behind blanks: a comma, or nothing where one of them is a slash
abbrev pub Separates : List ℕ → Item → Item → Type 0
Separates bytes item next = (bytes ≡ 44 ∷ []) ⊎ ((bytes ≡ []) × IsTrue (is_slash item || is_slash next))

-- one item or more, with blanks behind each
abbrev pub SpellsItems : List ℕ → List Item → Type 0
SpellsItems bytes [] = ⊥
SpellsItems bytes (item ∷ []) = (first : List ℕ) × (blanks : List ℕ) × (bytes ≡ first ++ blanks) × SpellsItem first item × IsTrue (are_blanks blanks)
SpellsItems bytes (item ∷ next ∷ items) =
    (first : List ℕ) × (blanks : List ℕ) × (between : List ℕ) × (rest : List ℕ) × (bytes ≡ first ++ (blanks ++ (between ++ rest)))
    × SpellsItem first item × IsTrue (are_blanks blanks) × Separates between item next × SpellsItems rest (next ∷ items)

-- items, or none
abbrev pub SpellsInside : List ℕ → List Item → Type 0
SpellsInside bytes [] = IsTrue (are_blanks bytes)
SpellsInside bytes (item ∷ items) = SpellsItems bytes (item ∷ items)

-- a format: its items in brackets, and nothing but blanks around it
abbrev pub SpellsFormat : List ℕ → List Item → Type 0
SpellsFormat bytes items =
    (front : List ℕ) × (inside : List ℕ) × (back : List ℕ) × (bytes ≡ front ++ 40 ∷ (inside ++ 41 ∷ back))
    × IsTrue (are_blanks front) × SpellsInside inside items × IsTrue (are_blanks back)

-- bytes that spell a format
abbrev pub IsFormat : List ℕ → Type 0
IsFormat bytes = (items : List Item) × SpellsFormat bytes items
