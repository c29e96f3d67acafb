-- What the macros do that read a record into characters, or write characters as records. None stands for a use that is undefined.
use Rattle.std.specs.Prelude.{ℕ, zero, suc, ◌%◌, ◌&&◌, nat_le, if◌then◌else◌, List, [], ◌∷◌, map, replicate, Option, Some, None, ℤ, pos}
use Rattle.sil_base.specs.declared.limits.TheConstants.{MAX_FORMAT_BYTES, MAX_VALUE_CHARACTERS}
use Rattle.sil_format.specs.declared.value.Value.{Value}
use Rattle.sil_format.specs.declared.value.Value.TheVariants.{Char}
use Rattle.unit_io.specs.Answers.{read_bytes}
use Rattle.unit_io.specs.Numbered.{unit_at}
use Rattle.unit_io.specs.Tapes.{TapeState}
use Rattle.unit_calls.specs.CallsMade.{print_on, read}
use Rattle.sil_model.specs.declared.program.Arg.{Arg}
use Rattle.sil_model.specs.declared.program.Flow.{Flow}
use Rattle.sil_model.specs.declared.program.Flow.TheVariants.{Next, Trap}
use Rattle.sil_model.specs.Access.{◌>>=◌, a_at, v_at, char_at, integer_alone, set_descr_at}
use Rattle.sil_model.specs.Arguments.{goto_at, place_at}
use Rattle.sil_model.specs.Effects.{Effect, On, Undefined, Untold, goes}
use Rattle.sil_model.specs.Integers.{◌⊞◌}
use Rattle.sil_model.specs.Memory.{Memory}
use Rattle.sil_model.specs.States.{State}
use Rattle.unit_clauses.specs.UnitClauses.{after_call, unit_named}
use Rattle.string_clauses.specs.StringClauses.{chars_written, first_of, length_at, second_of}
use Rattle.record_clauses.specs.declared.reading.Reading.{Reading}

-- ---- a record is read

-- what is read: the unit, the characters of S, and where the answers lead
unfoldable pub to_read : List Arg → Memory → Option Reading
to_read args m = do
  s ← place_at args 0
  d ← place_at args 1
  at_end ← goto_at args 2
  failure ← goto_at args 3
  success ← goto_at args 4
  count ← length_at m s
  at ← first_of count m s
  a ← a_at m d
  Some (record { unit = unit_named a; at = at; count = count; at_end = at_end; failure = failure; success = success })

abbrev pub blanks : ℕ → List ℕ
blanks count = replicate count 32

-- so many blanks after a read into them: the first characters are those of the record, as far as both go; a number that is no byte counts by its lowest eight bits
abbrev pub text_read : ℕ → TapeState → List ℕ
text_read count t = map (λ c. c % 256) (read_bytes t (blanks count))

-- where an answer leads: 0 a record, 1 the end, 2 a failure
abbrev pub read_leads : Reading → ℕ → Flow
read_leads r zero = r.success
read_leads r (suc zero) = r.at_end
read_leads r _ = r.failure

-- goes on with this memory; where there is none it is undefined, with what was done before
abbrev pub with_left : Flow → State → Option Memory → Effect
with_left flow s None = Some (Undefined, s)
with_left flow s (Some m) = goes flow (record s { memory = m })

-- a read from what has the unit's number, where the memory has the blanks: undefined where the unit is absent
abbrev pub read_on : State → Reading → Memory → Option (Option TapeState) → Effect
read_on s r m None = None
read_on s r m (Some None) = Some (Untold, s)
read_on s r m (Some (Some t)) = with_left (read_leads r (read t).answer) (after_call s r.unit (read t)) (chars_written r.at (text_read r.count t) m)

-- blanks, and a record that is read into them
abbrev pub read_into : State → Reading → Effect
read_into s r = do
  m ← chars_written r.at (blanks r.count) s.memory
  read_on s r m (unit_at s.tapes r.unit)

-- `STREAD S,D,L1,L2,L3`: the characters of S become blanks, and a record of unit D.A is read into them; to L1 at the end, L2 on a failure, else L3
unfoldable pub stread : List Arg → State → Effect
stread args s = do
  r ← to_read args s.memory
  read_into s r

-- ---- characters are written

-- the address of the cell that is so many cells further on
abbrev pub cells_on : Memory → ℕ → ℤ → ℤ
cells_on m zero at = at
cells_on m (suc n) at = second_of m (cells_on m n at)

-- a number, where it is from the first to the second
abbrev pub between : ℕ → ℕ → ℕ → Option ℕ
between least most n = if nat_le least n && nat_le n most then Some n else None

-- so many characters from an address on
unfoldable pub chars_at : Memory → ℤ → ℕ → Option (List ℕ)
chars_at m at zero = Some []
chars_at m at (suc n) = do
  c ← char_at m at
  rest ← chars_at m (at ⊞ pos 1) n
  Some (c ∷ rest)

-- a unit, and the place of the text of a format, which has so many characters
pub record Layout : Type 0 where
  pub unit : ℕ
  pub at : ℤ
  pub size : ℕ

-- the unit's number is behind the cell at D2.A, and the address of the text's block behind that; the text stands four cells into the block, whose V field is its length
unfoldable pub layout_of : List Arg → Memory → Option Layout
layout_of args m = do
  d ← place_at args 1
  block ← a_at m d
  a ← a_at m (cells_on m 1 block)
  p ← a_at m (cells_on m 2 block)
  v ← v_at m p
  size ← between 1 MAX_FORMAT_BYTES v
  Some (record { unit = unit_named a; at = cells_on m 4 p; size = size })

-- the place of the characters of S, and how many there are
unfoldable pub string_of : List Arg → Memory → Option (ℤ × ℕ)
string_of args m = do
  s ← place_at args 2
  l ← length_at m s
  count ← between 0 MAX_VALUE_CHARACTERS l
  at ← first_of count m s
  Some (at, count)

-- what is written: characters by the text of a format on a unit; and the place of the descriptor that is told of it
pub record ToWrite : Type 0 where
  pub target : ℤ
  pub unit : ℕ
  pub text : List ℕ
  pub values : List Value

unfoldable pub to_write : List Arg → Memory → Option ToWrite
to_write args m = do
  target ← place_at args 0
  f ← layout_of args m
  text ← chars_at m f.at f.size
  x ← string_of args m
  chars ← chars_at m x.0 x.1
  Some (record { target = target; unit = f.unit; text = text; values = map Char chars })

-- how a statement goes by the answer of its writes: the descriptor becomes (0, 0, 0) where they are done, and (1, 0, 0) where one failed; undefined for no format and unfit values, a trap for a real
abbrev pub written_by : ℤ → ℕ → State → Effect
written_by target zero s = with_left Next s (set_descr_at s.memory target (integer_alone (pos 0)))
written_by target (suc zero) s = with_left Next s (set_descr_at s.memory target (integer_alone (pos 1)))
written_by target (suc (suc (suc zero))) s = Some (On Trap, s)
written_by target _ s = Some (Undefined, s)

-- writes on what has the unit's number: undefined where the unit is absent
abbrev pub write_on : State → ToWrite → Option (Option TapeState) → Effect
write_on s w None = None
write_on s w (Some None) = Some (Untold, s)
write_on s w (Some (Some t)) = written_by w.target (print_on w.text w.values t).answer (after_call s w.unit (print_on w.text w.values t))

-- `STPRNT D1,D2,S`: the characters of S are written by the format that D2 names, on the unit that it names; D1 is told whether a write failed
unfoldable pub stprnt : List Arg → State → Effect
stprnt args s = do
  w ← to_write args s.memory
  write_on s w (unit_at s.tapes w.unit)
