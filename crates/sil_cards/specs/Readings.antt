-- The cards of a source and of the files that it copies, and the rules that its lines break.
use Rattle.std.specs.Prelude.{◌≡◌, ℕ, ◌+◌, ◌<◌, nat_lt, Bool, true, false, ◌||◌, List, [], ◌∷◌, ◌++◌, length, Option, Some, None, IsSomeAnd, if◌then◌else◌}
use Rattle.sil_base.specs.declared.limits.TheConstants.{MAX_CARDS, MAX_FILE_BYTES}
use Rattle.std.specs.declared.result.Result.{Result}
use Rattle.std.specs.declared.result.Result.TheVariants.{Ok, Err}
use Rattle.std.specs.FinMap.{get}
use Rattle.sil_base.specs.Files.{Files}
use Rattle.sil_base.specs.declared.line.Fault.{Fault}
use Rattle.sil_base.specs.declared.line.TheConstants.{SOURCE_FILE}
use Rattle.sil_base.specs.Faults.{fault_at}
use Rattle.sil_cards.specs.declared.stop.CardStop.{CardStop}
use Rattle.sil_cards.specs.declared.stop.CardStop.TheVariants as stop
use Rattle.sil_cards.specs.declared.verdict.Verdict.{Verdict}
use Rattle.sil_cards.specs.declared.verdict.Verdict.TheVariants.{Broken, Taken}
use Rattle.sil_base.specs.Lines.{without_end}
use Rattle.sil_cards.specs.CardVerdicts.{verdict, is_end}
use Rattle.sil_cards.specs.CardParts.{CardParts}
use Rattle.sil_cards.specs.Cards.{card_at}
use Rattle.sil_cards.specs.Reads.{Read, Opened, Refused, ReadLine, file_read}

-- the names of the files that are read, why the last of them can't be, the cards, and the faults
pub record Reading : Type 0 where
  pub loads : List (List ℕ)
  pub refused : Option CardStop
  pub cards : List CardParts
  pub faults : List Fault

abbrev pub nothing : Reading
nothing = record { loads = []; refused = None; cards = []; faults = [] }

-- with so many cards and bytes a limit is passed
abbrev pub is_full : ℕ → ℕ → Bool
is_full count bytes = nat_lt MAX_CARDS count || nat_lt MAX_FILE_BYTES bytes

-- a card with which a limit is passed breaks C7, if no other rule
abbrev pub limited : Bool → Verdict → Verdict
limited true (Broken rule) = Broken rule
limited true _ = Broken 7
limited false verdict = verdict

-- the fault of a line of the source
abbrev pub card_fault : ℕ → ℕ → Fault
card_fault number rule = fault_at SOURCE_FILE 67 number rule

abbrev pub given_faults : ℕ → Verdict → List Fault
given_faults number (Broken rule) = card_fault number rule ∷ []
given_faults number _ = []

abbrev pub given_cards : ℕ → List ℕ → Verdict → List CardParts
given_cards number text Taken = card_at number text ∷ []
given_cards number text _ = []

-- one more line in front of what is read after it
abbrev pub with_line : ℕ → List ℕ → Verdict → Reading → Reading
with_line number text verdict rest =
    record rest { cards = given_cards number text verdict ++ rest.cards; faults = given_faults number verdict ++ rest.faults }

-- what is read after so many cards and bytes: to END, to a card that passes a limit, or to a file that can't be read
abbrev pub reading : ℕ → ℕ → List Read → Reading
reading count bytes [] = record nothing { faults = card_fault (count + 1) 8 ∷ [] }
reading count bytes (Opened name ∷ reads) =
    let rest = reading count bytes reads in record rest { loads = name ∷ rest.loads }
reading count bytes (Refused name stop ∷ reads) = record nothing { loads = name ∷ []; refused = Some stop }
reading count bytes (ReadLine deeper line ∷ reads) =
    let text = without_end line in
    let full = is_full (count + 1) (bytes + length line) in
    with_line (count + 1) text (limited full (verdict deeper text))
    (if full || is_end text then nothing else reading (count + 1) (bytes + length line) reads)

-- the reading of a source, which is the first of at most nine levels of files
unfoldable pub reading_of : Files → List ℕ → Reading
reading_of files name = reading 0 0 (file_read files 9 name)

-- the cards, unless a file can't be read or a line breaks a rule
abbrev pub answer_of : Option CardStop → List Fault → List CardParts → Result (List CardParts) CardStop
answer_of (Some stop) faults cards = Err stop
answer_of None [] cards = Ok cards
answer_of None (fault ∷ faults) cards = Err (stop.Faults (fault ∷ faults))

-- the cards of a source, or why there are none
abbrev pub cards_of : Files → List ℕ → Result (List CardParts) CardStop
cards_of files name = let r = reading_of files name in answer_of r.refused r.faults r.cards

-- the names of the files that are read: the source, and the file of each COPY that is followed, at its card
abbrev pub loads_of : Files → List ℕ → List (List ℕ)
loads_of files name = (reading_of files name).loads

-- the lines that break a rule, each with its least rule
abbrev pub faults_of : Files → List ℕ → List Fault
faults_of files name = (reading_of files name).faults

-- a file that is missing or too long is the last of those that are read
abbrev pub StopsAt : Files → List (List ℕ) → CardStop → Type 0
StopsAt files loads (stop.Missing name) = (front : List (List ℕ)) × (loads ≡ front ++ name ∷ []) × (get files name ≡ None)
StopsAt files loads (stop.TooLong name) =
    (front : List (List ℕ)) × (loads ≡ front ++ name ∷ []) × IsSomeAnd (get files name) (λ text. MAX_FILE_BYTES < length text)
StopsAt files loads (stop.Faults faults) = Unit {0}
StopsAt files loads (stop.Failed name) = Unit {0}
StopsAt files loads stop.Memory = Unit {0}
