-- What calls of a unit answer, by its tape.
use Rattle.std.specs.Prelude.{◌≡◌, ℕ, ◌≤◌, min, List, ◌++◌, length, take, drop, Option, Some, None, if◌then◌else◌}
use Rattle.std.specs.Option.{option_map}
use Rattle.unit_io.specs.Tapes.{TapeState, next_fails, next_record, unless_fails, recorded}
use Rattle.unit_io.specs.declared.answers.ReadAnswer.{ReadAnswer}
use Rattle.unit_io.specs.declared.answers.ReadAnswer.TheVariants as read
use Rattle.unit_io.specs.declared.answers.UnitAnswer.{UnitAnswer}
use Rattle.unit_io.specs.declared.answers.UnitAnswer.TheVariants.{Ok, Failed, Memory}
use denote.Ref.{Bor}

-- a call other than a read
abbrev pub answer_of : TapeState → UnitAnswer
answer_of t = if next_fails t then Failed else Ok

-- a record, or none, that is read into so many bytes
abbrev pub answer_to_record : Option (List ℕ) → ℕ → ReadAnswer
answer_to_record None room = read.End
answer_to_record (Some bytes) room = read.Rec (min (length bytes) room)

abbrev pub read_answer : TapeState → ℕ → ReadAnswer
read_answer t room = if next_fails t then read.Failed else answer_to_record (next_record t) room

-- a record's first bytes that fit, and the old bytes after them
abbrev pub overlaid : Option (List ℕ) → List ℕ → List ℕ
overlaid None old = old
overlaid (Some bytes) old = take (length old) bytes ++ drop (length bytes) old

-- the bytes after a read into the old ones
abbrev pub read_bytes : TapeState → List ℕ → List ℕ
read_bytes t old = if next_fails t then old else overlaid (next_record t) old

-- no more bytes were read than there was room for
abbrev pub ReadFits : ReadAnswer → ℕ → Type 0
ReadFits (read.Rec count) room = count ≤ room
ReadFits read.End room = Unit {0}
ReadFits read.Failed room = Unit {0}

-- a write answers as the tape says, or finds no memory and leaves the tape whole
abbrev pub Writes : List ℕ → TapeState → UnitAnswer → Option TapeState → Type 0
Writes bytes t Ok after = (answer_of t ≡ Ok) × (after ≡ Some (unless_fails t (recorded bytes)))
Writes bytes t Failed after = (answer_of t ≡ Failed) × (after ≡ Some (unless_fails t (recorded bytes)))
Writes bytes t Memory after = after ≡ Some t

-- the records of a tape are known where it is told
abbrev pub Knows : Option TapeState → Option (Bor (List (List ℕ))) → Type 0
Knows tape known = option_map (λ t. t.records) tape ≡ option_map (λ records. records.now) known
