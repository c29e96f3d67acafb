-- Calls of units in their places, unit by unit.
use Rattle.std.specs.Prelude.{◌≡◌, ◌≢◌, ℕ, ◌≤◌, List, length, Option, Some, IfSome, MatchOption, map}
use Rattle.std.specs.Option.{option_map}
use Rattle.sil_base.specs.Causes.{Rose}
use Rattle.unit_io.specs.Numbered.{unit_at, with_unit}
use Rattle.unit_io.specs.Tapes.{TapeState, unless_fails, forward, rewound, backspaced, ended}
use Rattle.unit_io.specs.Answers.{answer_of, read_answer, read_bytes}
use Rattle.unit_io.specs.Units.{Seen, AllUnits}
use Rattle.unit_io.specs.Calls.{units_read, UnitsReadFits, WritesTape}
use Rattle.unit_io.specs.declared.answers.UnitsRead.{UnitsRead}
use Rattle.unit_io.specs.declared.answers.UnitsRead.TheVariants as reads
use Rattle.unit_io.specs.declared.answers.UnitAnswer.{UnitAnswer}
use Rattle.unit_io.specs.declared.answers.UnitAnswer.TheVariants as unit
use Rattle.unit_io.specs.declared.answers.UnitsAnswer.{UnitsAnswer}
use Rattle.unit_io.specs.declared.answers.UnitsAnswer.TheVariants.{Ok, Failed, Memory, Absent}
use Rattle.unit_io.specs.declared.moves.Move.{Move}
use Rattle.unit_io.specs.declared.moves.Move.TheVariants.{Rewind, Backspace, Endfile}

-- what is seen of a unit, by what it tells
abbrev pub seen_of : {U : Type 0} → (U → Option TapeState) → (U → ℕ) → U → Seen
seen_of tape faults u = record { tape = tape u; faults = faults u }

-- what is seen of the units in their places
abbrev pub seen_by : {U : Type 0} → (U → Option TapeState) → (U → ℕ) → List (Option U) → AllUnits
seen_by tape faults slots = map (option_map (seen_of tape faults)) slots

-- a call of unit n: nothing is changed where it is absent, and else unit n alone
pub record CallsUnit (n : ℕ) (before after : AllUnits) (Absence : Type 0) (Changes : Seen → Seen → Type 0) : Type 0 where
  pub call : MatchOption (unit_at before n) (Absence × (after ≡ before)) (λ u. (v : Seen) × (after ≡ with_unit before n (Some v)) × Changes u v)

abbrev pub units_answer : UnitAnswer → UnitsAnswer
units_answer unit.Ok = Ok
units_answer unit.Failed = Failed
units_answer unit.Memory = Memory

-- a unit's read: from u to v, answering r, with these bytes before and after
pub record ReadsUnit (u v : Seen) (r : UnitsRead) (old new : List ℕ) : Type 0 where
  pub answer : IfSome u.tape (λ t. r ≡ units_read (read_answer t (length old)))
  pub bytes : IfSome u.tape (λ t. new ≡ read_bytes t old)
  pub tape : IfSome u.tape (λ t. v.tape ≡ Some (unless_fails t forward))
  pub there : r ≢ reads.Absent
  pub fits : UnitsReadFits r (length old)
  pub count : u.faults ≤ v.faults
  pub failed : r ≡ reads.Failed → Rose u.faults v.faults

-- how each move changes a tape
abbrev pub change_of : Move → TapeState → TapeState
change_of Rewind t = rewound t
change_of Backspace t = backspaced t
change_of Endfile t = ended t

-- a unit's call that changes its tape so
pub record MovesUnit (change : TapeState → TapeState) (u v : Seen) (r : UnitsAnswer) : Type 0 where
  pub answer : IfSome u.tape (λ t. r ≡ units_answer (answer_of t))
  pub tape : IfSome u.tape (λ t. v.tape ≡ Some (unless_fails t change))
  pub there : r ≢ Absent
  pub memory : r ≢ Memory
  pub count : u.faults ≤ v.faults
  pub failed : r ≡ Failed → Rose u.faults v.faults

-- writes of records on a unit
pub record WritesUnit (records : List (List ℕ)) (u v : Seen) (r : UnitsAnswer) : Type 0 where
  pub tape : IfSome u.tape (λ t. (w : TapeState) × (v.tape ≡ Some w) × WritesTape records t r w)
  pub there : r ≢ Absent
  pub count : u.faults ≤ v.faults
  pub failed : r ≡ Failed → Rose u.faults v.faults
