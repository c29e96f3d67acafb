-- Calls of units that meet the clauses of their macros.
use Rattle.std.proofs.Common.{◌≡◌, ◌≢◌, ℕ, List, Option, Some, None, ℤ, refl}
use Rattle.std.specs.Prelude.{Bool, true, false, Result, Err, if◌then◌else◌, map}
use Rattle.std.proofs.lemmas.Option.{same_Some}
use Rattle.sil_format.specs.declared.value.Value.TheVariants.{Number}
use Rattle.unit_io.specs.Calls.{OnUnit, Moves}
use Rattle.unit_io.specs.Numbered.{unit_at}
use Rattle.unit_io.specs.Tapes.{TapeState, Tapes, backspaced, ended, rewound, next_fails, unless_fails, with_tape}
use Rattle.unit_io.specs.declared.answers.UnitsAnswer.{UnitsAnswer}
use Rattle.unit_io.specs.declared.answers.UnitsAnswer.TheVariants as answers
use Rattle.unit_calls.specs.CallsMade.{moved, print_on}
use Rattle.unit_calls.specs.Printing.{Prints, PrintsTape}
use Rattle.unit_calls.specs.declared.printed.Printed.{Printed}
use Rattle.unit_calls.specs.declared.printed.Printed.TheVariants as printed
use Rattle.sil_macros.specs.declared.names.Macro.TheVariants.{Output}
use Rattle.sil_model.specs.declared.program.Flow.{Flow}
use Rattle.sil_model.specs.Access.{◌>>=◌, a_at}
use Rattle.sil_model.specs.Arguments.{format_at, maybe_places_at, place_at}
use Rattle.sil_model.specs.Effects.{Effect}
use Rattle.sil_model.specs.Lists.{all_a_read}
use Rattle.sil_model.specs.Settling.{settle}
use Rattle.sil_model.specs.Memory.{Memory}
use Rattle.sil_model.specs.Sites.{Site}
use Rattle.sil_model.specs.States.{State}
use Rattle.unit_clauses.specs.UnitClauses.{bkspce, call_on, call_unit, enfile, move_unit, output, rewind, unit_named, way_by}
use Rattle.sil_machine.specs.MachineParts.{Meets, answered}
use Rattle.sil_machine.specs.UnitStatements.{IsCut, ToPrint, printed_to, to_print, unit_of, went_by}
use Rattle.sil_machine.specs.declared.parts.Stop.{Stop}
use Rattle.sil_machine.specs.declared.parts.Stop.TheVariants.{Undefined}

-- the state with other tapes
abbrev pub with_tapes : State → Tapes → State
with_tapes s tapes = record s { tapes = tapes }

-- ---- moves

by_failure : (s : State) (unit : ℕ) (b : Bool) (after : Tapes) →
    settle s (Some (way_by unit (if b then 1 else 0), with_tapes s after)) ≡ settle s (answered (went_by unit (if b then answers.Failed else answers.Ok)) (with_tapes s after))
by_failure s unit true after = refl
by_failure s unit false after = refl

move_meets_on : (change : TapeState → TapeState) (s : State) (unit : ℕ) (place : Option (Option TapeState)) (after : Tapes) (answer : UnitsAnswer) →
    OnUnit place ((answer ≡ answers.Absent) × (after ≡ s.tapes)) (answer ≢ answers.Absent) (λ t. (answer ≡ (if next_fails t then answers.Failed else answers.Ok)) × (after ≡ with_tape s.tapes unit (unless_fails t change))) →
    Meets s (call_on s unit (moved change) place) (went_by unit answer) (with_tapes s after)
unfolding Meets
move_meets_on change s unit None after answer h memory told = rw (h.0, h.1) refl
move_meets_on change s unit (Some None) after answer h memory told = cc
move_meets_on change s unit (Some (Some t)) after answer h memory told = rw (h.0, h.1) (by_failure s unit (next_fails t) (with_tape s.tapes unit (unless_fails t change)))

named : (s : State) (change : TapeState → TapeState) (d : Option ℤ) (a : ℤ → Option ℤ) (unit : ℕ) → (d >>= (λ at. a at >>= (λ x. Some (unit_named x)))) ≡ Some unit →
    (d >>= (λ at. a at >>= (λ x. call_unit s (unit_named x) (moved change)))) ≡ call_unit s unit (moved change)
named s change None a unit e = cc
named s change (Some at) a unit e = by_field (a at) e
  where
    by_field : (o : Option ℤ) → (o >>= (λ x. Some (unit_named x))) ≡ Some unit → (o >>= (λ x. call_unit s (unit_named x) (moved change))) ≡ call_unit s unit (moved change)
    by_field None e = cc
    by_field (Some x) e = rw (same_Some (unit_named x) unit e) refl

unnamed : (s : State) (change : TapeState → TapeState) (d : Option ℤ) (a : ℤ → Option ℤ) → (d >>= (λ at. a at >>= (λ x. Some (unit_named x)))) ≡ None →
    (d >>= (λ at. a at >>= (λ x. call_unit s (unit_named x) (moved change)))) ≡ None
unnamed s change None a e = refl
unnamed s change (Some at) a e = by_field (a at) e
  where
    by_field : (o : Option ℤ) → (o >>= (λ x. Some (unit_named x))) ≡ None → (o >>= (λ x. call_unit s (unit_named x) (moved change))) ≡ None
    by_field None e = refl
    by_field (Some x) e = cc

move_meets : (change : TapeState → TapeState) (site : Site) (s : State) (unit : ℕ) (after : Tapes) (answer : UnitsAnswer) (went : Result Flow Stop) → unit_of site s.memory ≡ Some unit → Moves change unit s.tapes after answer →
    went ≡ went_by unit answer → Meets s (move_unit change site s) went (with_tapes s after)
unfolding unit_of
move_meets change site s unit after answer went is moves goes =
    rw (named s change (place_at site.args 0) (a_at s.memory) unit is, goes) (move_meets_on change s unit (unit_at s.tapes unit) after answer moves)

move_none : (change : TapeState → TapeState) (site : Site) (s : State) → unit_of site s.memory ≡ None → Meets s (move_unit change site s) (Err Undefined) s
unfolding unit_of Meets
move_none change site s is memory told = rw (unnamed s change (place_at site.args 0) (a_at s.memory) is) refl

pub bkspce_meets : (site : Site) (s : State) (unit : ℕ) (after : Tapes) (answer : UnitsAnswer) (went : Result Flow Stop) → unit_of site s.memory ≡ Some unit → Moves backspaced unit s.tapes after answer →
    went ≡ went_by unit answer → Meets s (bkspce site s) went (with_tapes s after)
unfolding bkspce
bkspce_meets site s unit after answer went is moves goes = move_meets backspaced site s unit after answer went is moves goes

pub bkspce_none : (site : Site) (s : State) → unit_of site s.memory ≡ None → Meets s (bkspce site s) (Err Undefined) s
unfolding bkspce
bkspce_none site s is = move_none backspaced site s is

pub enfile_meets : (site : Site) (s : State) (unit : ℕ) (after : Tapes) (answer : UnitsAnswer) (went : Result Flow Stop) → unit_of site s.memory ≡ Some unit → Moves ended unit s.tapes after answer →
    went ≡ went_by unit answer → Meets s (enfile site s) went (with_tapes s after)
unfolding enfile
enfile_meets site s unit after answer went is moves goes = move_meets ended site s unit after answer went is moves goes

pub enfile_none : (site : Site) (s : State) → unit_of site s.memory ≡ None → Meets s (enfile site s) (Err Undefined) s
unfolding enfile
enfile_none site s is = move_none ended site s is

pub rewind_meets : (site : Site) (s : State) (unit : ℕ) (after : Tapes) (answer : UnitsAnswer) (went : Result Flow Stop) → unit_of site s.memory ≡ Some unit → Moves rewound unit s.tapes after answer →
    went ≡ went_by unit answer → Meets s (rewind site s) went (with_tapes s after)
unfolding rewind
rewind_meets site s unit after answer went is moves goes = move_meets rewound site s unit after answer went is moves goes

pub rewind_none : (site : Site) (s : State) → unit_of site s.memory ≡ None → Meets s (rewind site s) (Err Undefined) s
unfolding rewind
rewind_none site s is = move_none rewound site s is

-- ---- prints

print_meets_on : (p : ToPrint) (s : State) (place : Option (Option TapeState)) (after : Tapes) (answer : Printed) →
    OnUnit place ((answer ≡ printed.Absent) × (after ≡ s.tapes)) (answer ≢ printed.Absent) (λ t. PrintsTape p.text p.values p.unit t s.tapes after answer) →
    Meets s (call_on s p.unit (print_on p.text p.values) place) (printed_to p.unit answer) (with_tapes s after)
unfolding Meets
print_meets_on p s None after answer h memory told = rw (h.0, h.1) refl
print_meets_on p s (Some None) after answer h memory told = cc
print_meets_on p s (Some (Some t)) after printed.Done h memory told = rw (h.0, h.1) refl
print_meets_on p s (Some (Some t)) after printed.Failed h memory told = rw (h.0, h.1) refl
print_meets_on p s (Some (Some t)) after printed.Unfit h memory told = rw (h.0, h.1) refl
print_meets_on p s (Some (Some t)) after printed.Real h memory told = rw (h.0, h.1) refl
print_meets_on p s (Some (Some t)) after printed.Absent h memory told = absurd h
print_meets_on p s (Some (Some t)) after printed.Memory h memory told = cc

abbrev order_of : ℕ → List ℕ → List ℤ → ToPrint
order_of unit text numbers = record { unit = unit; text = text; values = map Number numbers }

abbrev prints_it : State → ToPrint → Effect
prints_it s p = call_unit s p.unit (print_on p.text p.values)

gathered : (s : State) (d : Option ℤ) (text : Option (List ℕ)) (ats : Option (List ℤ)) (a : ℤ → Option ℤ) (numbers : List ℤ → Option (List ℤ)) →
    (d >>= (λ d. text >>= (λ text. ats >>= (λ ats. a d >>= (λ a. numbers ats >>= (λ numbers. call_unit s (unit_named a) (print_on text (map Number numbers))))))))
    ≡ ((d >>= (λ d. text >>= (λ text. ats >>= (λ ats. a d >>= (λ a. numbers ats >>= (λ numbers. Some (order_of (unit_named a) text numbers))))))) >>= prints_it s)
gathered s None text ats a numbers = refl
gathered s (Some d) None ats a numbers = refl
gathered s (Some d) (Some text) None a numbers = refl
gathered s (Some d) (Some text) (Some ats) a numbers = by_field (a d) (numbers ats)
  where
    by_field : (o : Option ℤ) (v : Option (List ℤ)) → (o >>= (λ a. v >>= (λ numbers. call_unit s (unit_named a) (print_on text (map Number numbers))))) ≡ ((o >>= (λ a. v >>= (λ numbers. Some (order_of (unit_named a) text numbers)))) >>= prints_it s)
    by_field None v = refl
    by_field (Some a) None = refl
    by_field (Some a) (Some numbers) = refl

output_is : (site : Site) (s : State) → output site s ≡ (to_print site s.memory >>= prints_it s)
unfolding output to_print
output_is site s = gathered s (place_at site.args 0) (format_at site.args 1) (maybe_places_at site.args 2) (a_at s.memory) (all_a_read s.memory)

pub output_meets : (site : Site) (s : State) (p : ToPrint) (after : Tapes) (answer : Printed) (went : Result Flow Stop) → to_print site s.memory ≡ Some p → Prints p.text p.values p.unit s.tapes after answer →
    went ≡ printed_to p.unit answer → Meets s (output site s) went (with_tapes s after)
output_meets site s p after answer went is prints goes =
    rw (output_is site s, is, goes) (print_meets_on p s (unit_at s.tapes p.unit) after answer prints)

pub output_none : (site : Site) (s : State) → to_print site s.memory ≡ None → Meets s (output site s) (Err Undefined) s
unfolding Meets
output_none site s is memory told = rw (output_is site s, is) refl

cut_on : (p : ToPrint) (before after : Tapes) (place : Option (Option TapeState)) → OnUnit place ((printed.Memory ≡ printed.Absent) × (after ≡ before)) (printed.Memory ≢ printed.Absent) (λ t. PrintsTape p.text p.values p.unit t before after printed.Memory) →
    OnUnit place (after ≡ before) (Unit {0}) (λ t. PrintsTape p.text p.values p.unit t before after printed.Memory)
cut_on p before after None h = h.1
cut_on p before after (Some None) h = tt
cut_on p before after (Some (Some t)) h = h

pub output_cut : (site : Site) (m : Memory) (p : ToPrint) (before after : Tapes) (answer : Printed) → to_print site m ≡ Some p → Prints p.text p.values p.unit before after answer → answer ≡ printed.Memory → IsCut Output site m before after
unfolding IsCut
output_cut site m p before after answer is prints memory = rw is (cut_on p before after (unit_at before p.unit) (rw memory at prints))

pub ruleset moves = (bkspce_meets, bkspce_none, enfile_meets, enfile_none, rewind_meets, rewind_none)

pub ruleset prints = (output_meets, output_none, output_cut)
