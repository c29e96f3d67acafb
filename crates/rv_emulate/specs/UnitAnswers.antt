-- What calls on units answer, and what they leave.
use Rattle.std.specs.Prelude.{◌≡◌, ℕ, true, false, List, Option, Some, None}
use Rattle.sil_format.specs.declared.value.Value.{Value}
use Rattle.unit_io.specs.Numbered.{unit_at}
use Rattle.unit_io.specs.Tapes.{TapeState, Tapes, forward, unless_fails, with_tape}
use Rattle.unit_io.specs.Answers.{read_answer}
use Rattle.unit_io.specs.Calls.{OnUnit, units_read}
use Rattle.unit_io.specs.declared.answers.UnitsAnswer.{UnitsAnswer}
use Rattle.unit_io.specs.declared.answers.UnitsAnswer.TheVariants as moves
use Rattle.unit_io.specs.declared.answers.UnitsRead.{UnitsRead}
use Rattle.unit_io.specs.declared.answers.UnitsRead.TheVariants as reads
use Rattle.unit_calls.specs.CallsMade.{Made, absent}
use Rattle.unit_calls.specs.Printing.{PrintsFirst}
use Rattle.unit_calls.specs.declared.printed.Printed.{Printed}
use Rattle.unit_calls.specs.declared.printed.Printed.TheVariants as prints
use Rattle.rv_emulate.specs.declared.answers.Answer.{Answer}
use Rattle.rv_emulate.specs.EmulatorMemory.{Memory, bytes_at}
use Rattle.rv_emulate.specs.EmulatorStates.{register}
use Rattle.rv_emulate.specs.Ecalls.{made_by, memory_after, values_at}

-- the answer of a call that was made
abbrev pub answer_by : Made → Answer
answer_by made = record { number = made.answer; failed = made.failed }

-- the answer where there is no unit
abbrev pub no_unit : Answer
no_unit = record { number = absent; failed = false }

abbrev pub moved_by : UnitsAnswer → Answer
moved_by moves.Ok = record { number = 0; failed = false }
moved_by moves.Failed = record { number = 1; failed = true }
moved_by moves.Absent = no_unit
moved_by moves.Memory = no_unit

abbrev pub read_by : UnitsRead → Answer
read_by (reads.Rec count) = record { number = 0; failed = false }
read_by reads.End = record { number = 1; failed = false }
read_by reads.Failed = record { number = 2; failed = true }
read_by reads.Absent = no_unit

-- the answer of a call that prints, none where there was no memory
abbrev pub print_by : Printed → Option Answer
print_by prints.Done = Some (record { number = 0; failed = false })
print_by prints.Failed = Some (record { number = 1; failed = true })
print_by prints.Unfit = Some (record { number = 2; failed = false })
print_by prints.Real = Some (record { number = 3; failed = false })
print_by prints.Absent = Some no_unit
print_by prints.Memory = None

-- a call on unit n, which makes this of a tape and leaves this memory
abbrev pub Leaves : ℕ → Tapes → Tapes → Memory → Memory → (TapeState → Made) → (TapeState → Memory) → Answer → Type 0
Leaves n before after old new make left a = OnUnit (unit_at before n)
    ((a ≡ no_unit) × (after ≡ before) × (new ≡ old))
    (Unit {0})
    (λ t. (a ≡ answer_by (make t)) × (after ≡ with_tape before n (make t).tape) × (new ≡ left t))

-- a print that was cut off for want of memory leaves unit n as it was, or with the first of the records
abbrev pub CutOff : List ℕ → List Value → ℕ → Tapes → Tapes → Type 0
CutOff text values n before after = OnUnit (unit_at before n) (after ≡ before) (Unit {0}) (λ t. PrintsFirst text values n t before after)

-- what call 3 prints, and its values
abbrev pub text_of : List ℕ → Memory → List ℕ → List ℕ
text_of constants m xs = bytes_at constants m (register xs 12) (register xs 11)

abbrev pub values_of : List ℕ → Memory → List ℕ → List Value
values_of constants m xs = values_at constants m (register xs 13) (register xs 14) (register xs 15)

-- a call on unit n, by its answer; none where there was no memory, which leaves the emulator's memory alone
abbrev pub Calls : List ℕ → Memory → List ℕ → ℕ → Tapes → Tapes → Memory → Option Answer → Type 0
Calls constants old xs n before after new None = (new ≡ old) × (register xs 17 ≡ 3) × CutOff (text_of constants old xs) (values_of constants old xs) n before after
Calls constants old xs n before after new (Some a) = Leaves n before after old new (made_by constants old xs) (memory_after old xs) a

-- a read from unit k into n bytes, which leaves this
abbrev pub ReadsInto : {X : Type 0} → ℕ → ℕ → Tapes → Tapes → UnitsRead → X → X → (TapeState → X) → Type 0
ReadsInto k n before after answer old new left = OnUnit (unit_at before k)
    ((answer ≡ reads.Absent) × (new ≡ old) × (after ≡ before))
    (Unit {0})
    (λ t. (answer ≡ units_read (read_answer t n)) × (new ≡ left t) × (after ≡ with_tape before k (unless_fails t forward)))
