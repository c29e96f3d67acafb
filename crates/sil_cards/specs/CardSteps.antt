-- What the code has read so far, against the reading.
use Rattle.std.specs.Prelude.{◌≡◌, ℕ, ◌≤◌, Bool, true, false, List, [], ◌++◌, length, codes, All, None}
use Rattle.sil_base.specs.declared.limits.TheConstants.{MAX_CARDS, MAX_FILE_BYTES}
use Rattle.std.specs.Str.{IsAscii}
use Rattle.std.specs.List.Sorted.{IsStrictlyIncreasing}
use Rattle.std.specs.declared.result.Result.{Result}
use Rattle.sil_base.specs.Causes.{Rose}
use Rattle.sil_cards.specs.declared.reader.Flow.{Flow}
use Rattle.sil_cards.specs.declared.reader.Flow.TheVariants as flow
use Rattle.sil_cards.specs.declared.reader.Step.{Step}
use Rattle.sil_cards.specs.declared.reader.Step.TheVariants as step
use Rattle.sil_cards.specs.declared.reader.Reader.{Reader}
use Rattle.sil_cards.specs.declared.stop.CardStop.{CardStop}
use Rattle.sil_cards.specs.declared.stop.CardStop.TheVariants as stop
use Rattle.sil_cards.specs.declared.verdict.Verdict.{Verdict}
use Rattle.sil_cards.specs.declared.verdict.Verdict.TheVariants.{Copies}
use Rattle.sil_cards.specs.CardParts.{CardParts}
use Rattle.sil_base.specs.Lines.{without_end}
use Rattle.sil_base.specs.Names.{is_word}
use Rattle.sil_cards.specs.CardVerdicts.{verdict}
use Rattle.sil_cards.specs.Cards.{IsGood, IsShort, AreCards, numbers_of, field_bytes}
use Rattle.sil_cards.specs.Reads.{Read}
use Rattle.sil_cards.specs.Readings.{reading, answer_of}

abbrev pub Answer : Type 0
Answer = Result (List CardParts) CardStop

-- the answer, where these are still to be read
abbrev pub going_on : Reader → List Read → Answer
going_on r reads =
    let rest = reading r.number r.bytes reads in
    answer_of rest.refused (r.faults.items ++ rest.faults) (r.cards.items ++ rest.cards)

-- the answer, where nothing more is read
abbrev pub ended : Reader → Answer
ended r = answer_of None r.faults.items r.cards.items

abbrev pub after_flow : Flow → Reader → List Read → Answer
after_flow flow.Goes r reads = going_on r reads
after_flow flow.Ends r reads = ended r

abbrev pub after_step : Step → Reader → List Read → Answer
after_step step.Goes r reads = going_on r reads
after_step (step.Copies name) r reads = going_on r reads
after_step step.Ends r reads = ended r

-- the step that a card leads to, where the reading goes on
abbrev pub step_of : Verdict → Step
step_of (Copies name) = step.Copies name
step_of _ = step.Goes

-- the file that a line copies, if the reading goes on: files may be deeper, and its name is in ASCII
abbrev pub StepCopies : Step → ℕ → List ℕ → Type 0
StepCopies step.Goes deeper line = (name : List ℕ) → verdict deeper (without_end line) ≡ Copies name → ⊥
StepCopies (step.Copies name) deeper line = (verdict deeper (without_end line) ≡ Copies name) × (1 ≤ deeper) × IsAscii name
StepCopies step.Ends deeper line = Unit {0}

-- cards before END, with numbers up to this one, of lines that have so many bytes
pub record AreFirst (cards : List CardParts) (number size : ℕ) : Type 0 where
  pub good : All IsGood cards
  pub no_end : All (λ card. is_word card.operation (codes "END") ≡ false) cards
  pub rise : IsStrictlyIncreasing (numbers_of cards)
  pub numbers : All (λ n. n ≤ number) (numbers_of cards)
  pub few : length cards ≤ number
  pub short : All IsShort cards
  pub bytes : field_bytes cards ≤ size

-- what is read, before END and within the limits
pub record IsGoing (r : Reader) : Type 0 where
  pub first : AreFirst r.cards.items r.number r.bytes
  pub cards_left : r.number ≤ MAX_CARDS
  pub bytes_left : r.bytes ≤ MAX_FILE_BYTES

-- what is read after END or past a limit
pub record HasEnded (r : Reader) : Type 0 where
  pub cards : r.faults.items ≡ [] → AreCards r.cards.items
  pub few : length r.cards.items ≤ MAX_CARDS

abbrev pub FlowKeeps : Flow → Reader → Type 0
FlowKeeps flow.Goes r = IsGoing r
FlowKeeps flow.Ends r = HasEnded r

abbrev pub StepKeeps : Step → Reader → Type 0
StepKeeps step.Goes r = IsGoing r
StepKeeps (step.Copies name) r = IsGoing r
StepKeeps step.Ends r = HasEnded r

-- a stop that has no cause in the files
abbrev pub is_free : CardStop → Bool
is_free (stop.Faults faults) = false
is_free (stop.Missing name) = false
is_free (stop.TooLong name) = false
is_free (stop.Failed name) = true
is_free stop.Memory = true

-- a stop by a store fault comes only where the store's count rose
abbrev pub StopCause : CardStop → ℕ → ℕ → Type 0
StopCause (stop.Faults faults) before now = Unit {0}
StopCause (stop.Missing name) before now = Unit {0}
StopCause (stop.TooLong name) before now = Unit {0}
StopCause (stop.Failed name) before now = Rose before now
StopCause stop.Memory before now = Unit {0}

-- a stop by rules that lines break
abbrev pub IsFaults : CardStop → Type 0
IsFaults (stop.Faults faults) = Unit {0}
IsFaults (stop.Missing name) = ⊥
IsFaults (stop.TooLong name) = ⊥
IsFaults (stop.Failed name) = ⊥
IsFaults stop.Memory = ⊥

-- a stop that no load gave
abbrev pub NoLoad : CardStop → Type 0
NoLoad (stop.Faults faults) = Unit {0}
NoLoad (stop.Missing name) = ⊥
NoLoad (stop.TooLong name) = ⊥
NoLoad (stop.Failed name) = ⊥
NoLoad stop.Memory = Unit {0}
