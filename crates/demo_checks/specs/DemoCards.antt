-- The cards of a demo's source.
use Rattle.std.specs.Prelude.{ℕ, zero, suc, ◌+◌, ◌/◌, ◌%◌, List, [], ◌∷◌, ◌++◌, ◌==◌, if◌then◌else◌, codes, decimal}
use Rattle.sil_cards.specs.CardParts.{CardParts}
use Rattle.demo_source.specs.DemoSource.{next_of}

-- the operation, and the operand field, that a choice and a number give
abbrev pub operation_by : ℕ → List ℕ
operation_by choice =
    if choice == 0 then codes "INCRA"
    else (if choice == 1 then codes "DECRA"
    else (if choice == 2 then codes "SETAC"
    else codes "SUM"))

abbrev pub field_by : ℕ → ℕ → List ℕ
field_by choice m =
    if choice == 0 then codes "X," ++ decimal m
    else (if choice == 1 then codes "X," ++ decimal m
    else (if choice == 2 then codes "Y," ++ decimal m
    else codes "X,X,Y"))

-- a card, after so many others
abbrev pub card_after : ℕ → List ℕ → List ℕ → List ℕ → CardParts
card_after count label operation operands = record { number = count + 1; label = label; operation = operation; operands = operands }

-- the card of a number
abbrev pub number_card : ℕ → ℕ → CardParts
number_card count x = card_after count [] (operation_by ((x / 65536) % 4)) (field_by ((x / 65536) % 4) (x % 1000))

-- the last eight cards
abbrev pub tail_cards : ℕ → List CardParts
tail_cards count =
    card_after count [] (codes "OUTPUT") (codes "U,F,(X)")
    ∷ card_after (count + 1) [] (codes "ENDEX") (codes "Z")
    ∷ card_after (count + 1 + 1) (codes "X") (codes "DESCR") []
    ∷ card_after (count + 1 + 1 + 1) (codes "Y") (codes "DESCR") []
    ∷ card_after (count + 1 + 1 + 1 + 1) (codes "Z") (codes "DESCR") []
    ∷ card_after (count + 1 + 1 + 1 + 1 + 1) (codes "U") (codes "DESCR") (codes "UNITO")
    ∷ card_after (count + 1 + 1 + 1 + 1 + 1 + 1) (codes "F") (codes "FORMAT") (codes "'(I20)'")
    ∷ card_after (count + 1 + 1 + 1 + 1 + 1 + 1 + 1) [] (codes "END") []
    ∷ []

-- the cards of the n numbers after x, and the last ones, after so many others
abbrev pub cards_after : ℕ → ℕ → ℕ → List CardParts
cards_after count zero x = tail_cards count
cards_after count (suc n) x = number_card count (next_of x) ∷ cards_after (count + 1) n (next_of x)

-- all cards
abbrev pub cards_of_demo : ℕ → ℕ → List CardParts
cards_of_demo n seed = cards_after 0 n seed
