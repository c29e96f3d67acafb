-- Calls that a program makes on a unit: what they answer, and what they leave of its tape.
use Rattle.std.specs.Prelude.{ℕ, Bool, false, List, [], Option, Some, None, is_some, if◌then◌else◌, nat_le}
use Rattle.std.specs.Option.{option_map}
use Rattle.sil_format.specs.FormatReading.{format_of}
use Rattle.sil_format.specs.Records.{records_of}
use Rattle.sil_format.specs.declared.value.Value.{Value}
use Rattle.sil_format.specs.declared.value.Laid.{Laid}
use Rattle.sil_format.specs.declared.value.Laid.TheVariants.{Records, Real, Unfit}
use Rattle.unit_io.specs.Tapes.{TapeState, next_fails, next_record, unless_fails, forward, after_writes, writes_fail}

-- the number of the unit that a number names: no unit has one above 15, or 0
unfoldable pub unit_number : ℕ → ℕ
unit_number n = if nat_le n 15 then n else 0

-- a call that was made: its answer, whether it failed, and the tape that it leaves
pub record Made : Type 0 where
  pub answer : ℕ
  pub failed : Bool
  pub tape : TapeState

-- the answer of a call on an absent unit
abbrev pub absent : ℕ
absent = 4

-- a rewind, a backspace or an end of file: 0 done, 1 failed
abbrev pub moved : (TapeState → TapeState) → TapeState → Made
moved change t = record { answer = if next_fails t then 1 else 0; failed = next_fails t; tape = unless_fails t change }

-- a read: 0 a record, 1 the end, 2 failed
abbrev pub read : TapeState → Made
read t = record { answer = if next_fails t then 2 else (if is_some (next_record t) then 0 else 1); failed = next_fails t; tape = unless_fails t forward }

-- what is laid out of values by a text, which may be no format
unfoldable pub laid_by : List ℕ → List Value → Option Laid
laid_by text values = option_map (λ items. records_of items values) (format_of text)

-- what was laid out is written: 0 done, 1 failed, 2 no format or unfit, 3 real
abbrev pub printed : Option Laid → TapeState → Made
printed None t = record { answer = 2; failed = false; tape = t }
printed (Some Unfit) t = record { answer = 2; failed = false; tape = t }
printed (Some Real) t = record { answer = 3; failed = false; tape = t }
printed (Some (Records records)) t = record { answer = if writes_fail records t then 1 else 0; failed = writes_fail records t; tape = after_writes records t }

-- values are printed by a text
abbrev pub print_on : List ℕ → List Value → TapeState → Made
print_on text values t = printed (laid_by text values) t

-- the records that are written of what was laid out
abbrev pub records_in : Option Laid → List (List ℕ)
records_in None = []
records_in (Some Unfit) = []
records_in (Some Real) = []
records_in (Some (Records records)) = records
