-- A write of no records, which tells whether a unit is there.
use Rattle.std.proofs.Common.{◌≡◌, ◌≢◌, ◌≤◌, ℕ, List, [], Option, Some, None, IfSome, IsSomeAnd, refl, sym, ap, ◌∙◌}
use Rattle.std.specs.Option.{option_map}
use Rattle.sil_format.specs.declared.value.Value.{Value}
use Rattle.unit_io.specs.Numbered.{unit_at}
use Rattle.unit_io.specs.Tapes.{TapeState, Tapes, with_tape}
use Rattle.unit_io.specs.Units.{Seen, AllUnits, tapes_of, KeepsCounts}
use Rattle.unit_io.specs.Calls.{OnUnit, WritesAll, WritesTape}
use Rattle.unit_io.specs.declared.answers.UnitsAnswer.TheVariants.{Ok, Absent}
use Rattle.unit_io.proofs.Places.{unit_at-map}
use Rattle.unit_calls.specs.Printing.{PrintsTape, Prints, IfThere}
use Rattle.unit_calls.specs.declared.printed.Printed.{Printed}
use Rattle.unit_calls.specs.declared.printed.Printed.TheVariants as printed
use Rattle.unit_calls.proofs.PrintLemmas.{On, told_again}

kept_there : (u v : Option Seen) → u ≢ None → IfSome u (λ x. IsSomeAnd v (λ y. x.faults ≤ y.faults)) → v ≢ None
kept_there None v there kept e = there refl
kept_there (Some u) None there kept e = absurd kept
kept_there (Some u) (Some v) there kept e = cc

module _ (n : ℕ) (us vs : AllUnits) (probe : WritesAll [] n (tapes_of us) (tapes_of vs) Ok) where
  abbrev Probed : Option (Option TapeState) → Type 0
  Probed place = OnUnit place ((Ok ≡ Absent) × (tapes_of vs ≡ tapes_of us)) (Ok ≢ Absent) (λ t. (v : TapeState) × (tapes_of vs ≡ with_tape (tapes_of us) n v) × WritesTape [] t Ok v)

  -- the unit is there
  pub probed_there : unit_at us n ≢ None
  probed_there e =
      let none : unit_at (tapes_of us) n ≡ None = unit_at-map (λ u. u.tape) us n ∙ ap (option_map (λ u. u.tape)) e in
      let absent = rw none at probe in
      let no : Ok ≡ Absent = absent.0 in cc

  -- and still is, in a call that lets no count fall
  still_there : KeepsCounts us vs → unit_at vs n ≢ None
  unfolding KeepsCounts
  still_there keeps = kept_there (unit_at us n) (unit_at vs n) probed_there (keeps n)

  -- what is printed after the write is printed before it
  pub printed_then : (text : List ℕ) (values : List Value) (after : Tapes) (answer : Printed) → KeepsCounts us vs → IfThere (unit_at (tapes_of vs) n) (Prints text values n (tapes_of vs) after answer) → Prints text values n (tapes_of us) after answer
  printed_then text values after answer keeps prints = by_place (unit_at (tapes_of us) n) refl probe
    where
      not_absent : (answer : Printed) (before : Tapes) (t : TapeState) → PrintsTape text values n t before after answer → answer ≢ printed.Absent
      not_absent printed.Absent before t p e = absurd p
      not_absent printed.Done before t p e = cc
      not_absent printed.Failed before t p e = cc
      not_absent printed.Unfit before t p e = cc
      not_absent printed.Real before t p e = cc
      not_absent printed.Memory before t p e = cc

      -- an untold unit may be told by then
      by_tape : (before : Tapes) (place : Option (Option TapeState)) → place ≢ None → IfThere place (On text values n before place after answer) → answer ≢ printed.Absent
      by_tape before None there p = absurd (there refl)
      by_tape before (Some None) there p = p
      by_tape before (Some (Some t)) there p = not_absent answer before t p

      mapped : (place : Option Seen) → place ≢ None → option_map (λ u. u.tape) place ≢ None
      mapped None there e = there refl
      mapped (Some u) there e = cc

      there : unit_at (tapes_of vs) n ≢ None
      there e = mapped (unit_at vs n) (still_there keeps) (sym (unit_at-map (λ u. u.tape) vs n) ∙ e)

      by_place : (place : Option (Option TapeState)) → unit_at (tapes_of us) n ≡ place → Probed place → On text values n (tapes_of us) place after answer
      by_place None e w = let no : Ok ≡ Absent = w.0 in cc
      by_place (Some None) e w = by_tape (tapes_of vs) (unit_at (tapes_of vs) n) there prints
      by_place (Some (Some t)) e (v, at, (passed, same)) =
          let unchanged : tapes_of vs ≡ tapes_of us = at ∙ ap (with_tape (tapes_of us) n) same ∙ told_again (tapes_of us) n t e in
          rw (unchanged, e) at prints
