-- What the macros of units do. None stands for a use that is undefined.
use Rattle.std.specs.Prelude.{ℕ, zero, suc, List, Option, Some, None, map, ℤ}
use Rattle.std.specs.Int.{w64, cast_unsigned}
use Rattle.sil_format.specs.declared.value.Value.TheVariants.{Number}
use Rattle.unit_io.specs.Numbered.{unit_at}
use Rattle.unit_io.specs.Tapes.{TapeState, Tapes, rewound, backspaced, ended, with_tape}
use Rattle.unit_calls.specs.CallsMade.{Made, moved, print_on, unit_number}
use Rattle.sil_model.specs.declared.program.Flow.TheVariants.{Next, Trap}
use Rattle.sil_model.specs.Access.{◌>>=◌, a_at}
use Rattle.sil_model.specs.Arguments.{format_at, maybe_places_at, place_at}
use Rattle.sil_model.specs.Effects.{Way, Effect, On, Undefined, UnitFault, Untold}
use Rattle.sil_model.specs.Lists.{all_a_read}
use Rattle.sil_model.specs.Sites.{Site}
use Rattle.sil_model.specs.States.{State}

-- the number of the unit that an address field names
abbrev pub unit_named : ℤ → ℕ
unit_named a = unit_number (cast_unsigned w64 a)

-- how a statement goes by the answer of its call on a unit: done, failed, unfit or real
abbrev pub way_by : ℕ → ℕ → Way
way_by unit zero = On Next
way_by unit (suc zero) = UnitFault unit
way_by unit (suc (suc zero)) = Undefined
way_by unit (suc (suc (suc zero))) = On Trap
way_by unit _ = Undefined

-- the state after a call on a unit
abbrev pub after_call : State → ℕ → Made → State
after_call s unit made = record s { tapes = with_tape s.tapes unit made.tape }

-- a call on what has the unit's number: undefined where the unit is absent
abbrev pub call_on : State → ℕ → (TapeState → Made) → Option (Option TapeState) → Effect
call_on s unit make None = None
call_on s unit make (Some None) = Some (Untold, s)
call_on s unit make (Some (Some t)) = Some (way_by unit (make t).answer, after_call s unit (make t))

abbrev pub call_unit : State → ℕ → (TapeState → Made) → Effect
call_unit s unit make = call_on s unit make (unit_at s.tapes unit)

-- a move of the unit that a descriptor names
abbrev pub move_unit : (TapeState → TapeState) → Site → State → Effect
move_unit change site s = do
  d ← place_at site.args 0
  a ← a_at s.memory d
  call_unit s (unit_named a) (moved change)

-- `BKSPCE D`: unit D.A goes back by one record
unfoldable pub bkspce : Site → State → Effect
bkspce site s = move_unit backspaced site s

-- `ENFILE D`: unit D.A drops its records from the place on
unfoldable pub enfile : Site → State → Effect
enfile site s = move_unit ended site s

-- `REWIND D`: unit D.A goes to its first record
unfoldable pub rewind : Site → State → Effect
rewind site s = move_unit rewound site s

-- `OUTPUT D,M,DD?`: the records of format M and of the A fields of the items are written on unit D.A
unfoldable pub output : Site → State → Effect
output site s = do
  d ← place_at site.args 0
  text ← format_at site.args 1
  ats ← maybe_places_at site.args 2
  a ← a_at s.memory d
  numbers ← all_a_read s.memory ats
  call_unit s (unit_named a) (print_on text (map Number numbers))
