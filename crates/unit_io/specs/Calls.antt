-- What calls on numbered units answer and leave.
use Rattle.std.specs.Prelude.{◌≡◌, ◌≢◌, ℕ, ◌<◌, ◌≤◌, true, false, List, length, take, Option, Some, None, MatchOption, if◌then◌else◌}
use Rattle.unit_io.specs.Numbered.{unit_at, with_unit}
use Rattle.unit_io.specs.Tapes.{TapeState, Tapes, next_fails, unless_fails, forward, after_writes, writes_fail, with_tape}
use Rattle.unit_io.specs.Answers.{read_answer, read_bytes}
use Rattle.unit_io.specs.Units.{Seen, AllUnits}
use Rattle.unit_io.specs.declared.answers.ReadAnswer.{ReadAnswer}
use Rattle.unit_io.specs.declared.answers.ReadAnswer.TheVariants as read
use Rattle.unit_io.specs.declared.answers.UnitsRead.{UnitsRead}
use Rattle.unit_io.specs.declared.answers.UnitsRead.TheVariants as reads
use Rattle.unit_io.specs.declared.answers.UnitsAnswer.{UnitsAnswer}
use Rattle.unit_io.specs.declared.answers.UnitsAnswer.TheVariants.{Ok, Failed, Memory, Absent}

-- a call on unit n changes that unit alone, whose count of faults doesn't fall; an absent unit stays so
abbrev pub ChangesUnit : ℕ → AllUnits → AllUnits → Type 0
ChangesUnit n before after = MatchOption (unit_at before n) (after ≡ before) (λ u. (v : Seen) × (after ≡ with_unit before n (Some v)) × (u.faults ≤ v.faults))

-- what holds of a unit: where it is absent, where it doesn't tell its tape, and of the tape that it tells
abbrev pub OnUnit : Option (Option TapeState) → Type 0 → Type 0 → (TapeState → Type 0) → Type 0
OnUnit None absent untold told = absent
OnUnit (Some None) absent untold told = untold
OnUnit (Some (Some t)) absent untold told = told t

-- a call on unit n that changes its tape so
abbrev pub Moves : (TapeState → TapeState) → ℕ → Tapes → Tapes → UnitsAnswer → Type 0
Moves change n before after answer = OnUnit (unit_at before n)
    ((answer ≡ Absent) × (after ≡ before))
    (answer ≢ Absent)
    (λ t. (answer ≡ (if next_fails t then Failed else Ok)) × (after ≡ with_tape before n (unless_fails t change)))

abbrev pub units_read : ReadAnswer → UnitsRead
units_read (read.Rec count) = reads.Rec count
units_read read.End = reads.End
units_read read.Failed = reads.Failed

-- a read from unit n into these bytes
abbrev pub Reads : ℕ → Tapes → Tapes → UnitsRead → List ℕ → List ℕ → Type 0
Reads n before after answer old new = OnUnit (unit_at before n)
    ((answer ≡ reads.Absent) × (new ≡ old) × (after ≡ before))
    (answer ≢ reads.Absent)
    (λ t. (answer ≡ units_read (read_answer t (length old))) × (new ≡ read_bytes t old) × (after ≡ with_tape before n (unless_fails t forward)))

-- no more bytes were read than there was room for
abbrev pub UnitsReadFits : UnitsRead → ℕ → Type 0
UnitsReadFits (reads.Rec count) room = count ≤ room
UnitsReadFits reads.End room = Unit {0}
UnitsReadFits reads.Failed room = Unit {0}
UnitsReadFits reads.Absent room = Unit {0}

-- writes on a tape, in order up to the first that fails, or as far as there was memory, which is short of the last
abbrev pub WritesTape : List (List ℕ) → TapeState → UnitsAnswer → TapeState → Type 0
WritesTape records t Memory after = (count : ℕ) × (count < length records) × (writes_fail (take count records) t ≡ false) × (after ≡ after_writes (take count records) t)
WritesTape records t Ok after = (writes_fail records t ≡ false) × (after ≡ after_writes records t)
WritesTape records t Failed after = (writes_fail records t ≡ true) × (after ≡ after_writes records t)
WritesTape records t Absent after = ⊥

-- writes of records on unit n
abbrev pub WritesAll : List (List ℕ) → ℕ → Tapes → Tapes → UnitsAnswer → Type 0
WritesAll records n before after answer = OnUnit (unit_at before n)
    ((answer ≡ Absent) × (after ≡ before))
    (answer ≢ Absent)
    (λ t. (v : TapeState) × (after ≡ with_tape before n v) × WritesTape records t answer v)
