-- The source of a demo, its parameters and its tables.
use Rattle.std.specs.Prelude.{ℕ, zero, suc, ◌+◌, ◌*◌, ◌/◌, ◌%◌, ◌^◌, List, [], ◌++◌, ◌==◌, if◌then◌else◌, codes, decimal}
use Rattle.layout_params.specs.declared.reading.TheConstants.{STANDARD_PARAMS}

-- the number after x, of which the next card is made
abbrev pub next_of : ℕ → ℕ
next_of x = (1103515245 * x + 12345) % 2 ^ 31

-- a card of so many units of X, of Y, or of their sum
abbrev pub chosen_card : ℕ → ℕ → List ℕ
chosen_card choice m =
    if choice == 0 then codes " INCRA X," ++ decimal m ++ codes "\n"
    else (if choice == 1 then codes " DECRA X," ++ decimal m ++ codes "\n"
    else (if choice == 2 then codes " SETAC Y," ++ decimal m ++ codes "\n"
    else codes " SUM X,X,Y\n"))

-- the card of a number, with its LF
abbrev pub demo_card : ℕ → List ℕ
demo_card x = chosen_card ((x / 65536) % 4) (x % 1000)

-- the cards of the n numbers after x
abbrev pub demo_cards : ℕ → ℕ → List ℕ
demo_cards zero x = []
demo_cards (suc n) x = demo_card (next_of x) ++ demo_cards n (next_of x)

-- the cards after them: X is printed, and the run ends
abbrev pub demo_tail : List ℕ
demo_tail = codes " OUTPUT U,F,(X)\n ENDEX Z\nX DESCR\nY DESCR\nZ DESCR\nU DESCR UNITO\nF FORMAT '(I20)'\n END\n"

-- the whole source
abbrev pub demo_source : ℕ → ℕ → List ℕ
demo_source n seed = demo_cards n seed ++ demo_tail

-- its parameters: the text of the standard ones
abbrev pub demo_params : List ℕ
demo_params = STANDARD_PARAMS.now

-- its tables file, which is empty
abbrev pub demo_tables : List ℕ
demo_tables = []
