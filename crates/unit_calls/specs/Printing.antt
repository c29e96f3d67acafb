-- What a call that prints on a numbered unit answers and leaves.
use Rattle.std.specs.Prelude.{◌≡◌, ◌≢◌, ℕ, List, Option, Some, None, take}
use Rattle.sil_format.specs.declared.value.Value.{Value}
use Rattle.unit_io.specs.Numbered.{unit_at}
use Rattle.unit_io.specs.Tapes.{TapeState, Tapes, after_writes, with_tape}
use Rattle.unit_io.specs.Calls.{OnUnit}
use Rattle.unit_io.specs.declared.answers.UnitsAnswer.{UnitsAnswer}
use Rattle.unit_io.specs.declared.answers.UnitsAnswer.TheVariants as answers
use Rattle.unit_calls.specs.CallsMade.{absent, laid_by, print_on, records_in}
use Rattle.unit_calls.specs.declared.printed.Printed.{Printed}
use Rattle.unit_calls.specs.declared.printed.Printed.TheVariants.{Done, Failed, Unfit, Real, Absent, Memory}

-- the number of an answer; want of memory has none
abbrev pub number_of : Printed → ℕ
number_of Done = 0
number_of Failed = 1
number_of Unfit = 2
number_of Real = 3
number_of Absent = absent
number_of Memory = absent

-- want of memory leaves a unit with the first of the records that were to be written, or as it was
abbrev pub PrintsFirst : List ℕ → List Value → ℕ → TapeState → Tapes → Tapes → Type 0
PrintsFirst text values n t before after =
    (count : ℕ) × (after ≡ with_tape before n (after_writes (take count (records_in (laid_by text values))) t))

-- a call on a tape, by its answer
abbrev pub PrintsTape : List ℕ → List Value → ℕ → TapeState → Tapes → Tapes → Printed → Type 0
PrintsTape text values n t before after Memory = PrintsFirst text values n t before after
PrintsTape text values n t before after Absent = ⊥
PrintsTape text values n t before after answer =
    ((print_on text values t).answer ≡ number_of answer) × (after ≡ with_tape before n (print_on text values t).tape)

-- values are printed on unit n by a text
abbrev pub Prints : List ℕ → List Value → ℕ → Tapes → Tapes → Printed → Type 0
Prints text values n before after answer = OnUnit (unit_at before n)
    ((answer ≡ Absent) × (after ≡ before))
    (answer ≢ Absent)
    (λ t. PrintsTape text values n t before after answer)

-- what holds where a unit is there
abbrev pub IfThere : Option (Option TapeState) → Type 0 → Type 0
IfThere None P = Unit {0}
IfThere (Some unit) P = P

-- the answer of the writes of all records
abbrev pub printed_by : UnitsAnswer → Printed
printed_by answers.Ok = Done
printed_by answers.Failed = Failed
printed_by answers.Absent = Absent
printed_by answers.Memory = Memory
