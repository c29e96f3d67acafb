-- What a statement that calls a unit asks of it, and what want of memory leaves.
use Rattle.std.specs.Prelude.{◌≡◌, ℕ, List, Option, Some, MatchOption, Result, Ok, Err, map, take}
use Rattle.sil_format.specs.declared.value.Value.{Value}
use Rattle.sil_format.specs.declared.value.Value.TheVariants.{Number}
use Rattle.sil_macros.specs.declared.names.Macro.{Macro}
use Rattle.sil_macros.specs.declared.names.Macro.TheVariants.{Output}
use Rattle.unit_io.specs.Calls.{OnUnit}
use Rattle.unit_io.specs.Numbered.{unit_at}
use Rattle.unit_io.specs.Tapes.{Tapes}
use Rattle.unit_io.specs.declared.answers.UnitsAnswer.{UnitsAnswer}
use Rattle.unit_io.specs.declared.answers.UnitsAnswer.TheVariants as answers
use Rattle.unit_calls.specs.Printing.{PrintsFirst}
use Rattle.unit_calls.specs.declared.printed.Printed.{Printed}
use Rattle.unit_calls.specs.declared.printed.Printed.TheVariants as printed
use Rattle.sil_model.specs.declared.program.Flow.{Flow}
use Rattle.sil_model.specs.declared.program.Flow.TheVariants.{Next, Trap}
use Rattle.sil_model.specs.Access.{◌>>=◌, a_at}
use Rattle.sil_model.specs.Arguments.{format_at, maybe_places_at, place_at}
use Rattle.sil_model.specs.Lists.{all_a_read}
use Rattle.sil_model.specs.Memory.{Memory}
use Rattle.sil_model.specs.Sites.{Site}
use Rattle.unit_clauses.specs.UnitClauses.{unit_named}
use Rattle.sil_machine.specs.declared.parts.Stop.{Stop}
use Rattle.sil_machine.specs.declared.parts.Stop.TheVariants.{Undefined, UnitFault, Memory as NoMemory}
use Rattle.sil_machine.specs.declared.units.Printout.{Printout}

-- the unit that a statement names
unfoldable pub unit_of : Site → Memory → Option ℕ
unit_of site m = do
  d ← place_at site.args 0
  a ← a_at m d
  Some (unit_named a)

-- what is to be printed: a unit, the text of a format, and values
pub record ToPrint : Type 0 where
  pub unit : ℕ
  pub text : List ℕ
  pub values : List Value

-- what OUTPUT is to print
unfoldable pub to_print : Site → Memory → Option ToPrint
to_print site m = do
  d ← place_at site.args 0
  text ← format_at site.args 1
  ats ← maybe_places_at site.args 2
  a ← a_at m d
  numbers ← all_a_read m ats
  Some (record { unit = unit_named a; text = text; values = map Number numbers })

abbrev pub print_seen : Printout → ToPrint
print_seen p = record { unit = p.unit; text = p.text.now; values = take p.count p.values }

-- how a statement goes by what its call answers
abbrev pub went_by : ℕ → UnitsAnswer → Result Flow Stop
went_by unit answers.Ok = Ok Next
went_by unit answers.Failed = Err (UnitFault unit)
went_by unit answers.Memory = Err NoMemory
went_by unit answers.Absent = Err Undefined

abbrev pub printed_to : ℕ → Printed → Result Flow Stop
printed_to unit printed.Done = Ok Next
printed_to unit printed.Failed = Err (UnitFault unit)
printed_to unit printed.Unfit = Err Undefined
printed_to unit printed.Real = Ok Trap
printed_to unit printed.Absent = Err Undefined
printed_to unit printed.Memory = Err NoMemory

-- where there was no memory to print, the unit has the first of the records, and nothing else is changed; nothing is said of a unit that doesn't tell its tape
abbrev pub PrintIsCut : ToPrint → Tapes → Tapes → Type 0
PrintIsCut p before after = OnUnit (unit_at before p.unit) (after ≡ before) (Unit {0}) (λ t. PrintsFirst p.text p.values p.unit t before after)

-- what want of memory leaves of the tapes: OUTPUT alone changes them
unfoldable pub IsCut : Macro → Site → Memory → Tapes → Tapes → Type 0
IsCut Output site m before after = MatchOption (to_print site m) (after ≡ before) (λ p. PrintIsCut p before after)
IsCut _ site m before after = after ≡ before
