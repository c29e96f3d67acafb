-- What is laid out of values, and its writes on a unit that is there.
use Rattle.std.proofs.Common.{◌≡◌, ◌≢◌, ℕ, List, Option, Some, None, refl, sym, ap, ◌∙◌}
use Rattle.sil_format.specs.FormatReading.{format_of}
use Rattle.sil_format.specs.Records.{records_of}
use Rattle.sil_format.specs.declared.format.Item.{Item}
use Rattle.sil_format.specs.declared.value.Value.{Value}
use Rattle.sil_format.specs.declared.value.Laid.{Laid}
use Rattle.sil_format.specs.declared.value.Laid.TheVariants as laid
use Rattle.unit_io.specs.Numbered.{unit_at, with_unit}
use Rattle.unit_io.specs.Tapes.{TapeState, Tapes, with_tape}
use Rattle.unit_io.specs.Calls.{OnUnit, WritesAll, WritesTape}
use Rattle.unit_io.specs.declared.answers.UnitsAnswer.{UnitsAnswer}
use Rattle.unit_io.specs.declared.answers.UnitsAnswer.TheVariants as answers
use Rattle.unit_io.proofs.Places.{with_unit-same}
use Rattle.unit_calls.specs.CallsMade.{laid_by}
use Rattle.unit_calls.specs.Printing.{PrintsTape, Prints, IfThere, printed_by}
use Rattle.unit_calls.specs.declared.printed.Printed.{Printed}
use Rattle.unit_calls.specs.declared.printed.Printed.TheVariants.{Unfit, Real, Absent, Memory}

-- nothing is laid out by a text that is no format
pub laid_by_none : (text : List ℕ) (values : List Value) → format_of text ≡ None → laid_by text values ≡ None
unfolding laid_by
laid_by_none text values none = rw none refl

-- what is laid out by a text that is a format
pub laid_by_some : (text : List ℕ) (values : List Value) (items : List Item) (out : Laid) → format_of text ≡ Some items → out ≡ records_of items values → laid_by text values ≡ Some out
unfolding laid_by
laid_by_some text values items out read is = rw read (ap Some (sym is))

-- a told tape that is put where it was
pub told_again : (tapes : Tapes) (n : ℕ) (t : TapeState) → unit_at tapes n ≡ Some (Some t) → with_tape tapes n t ≡ tapes
told_again tapes n t e = ap (λ x. with_unit tapes n x) (sym e) ∙ with_unit-same tapes n

-- what is printed on a unit, by what is told of it
abbrev pub On : List ℕ → List Value → ℕ → Tapes → Option (Option TapeState) → Tapes → Printed → Type 0
On text values n before place after answer = OnUnit place ((answer ≡ Absent) × (after ≡ before)) (answer ≢ Absent) (λ t. PrintsTape text values n t before after answer)

module _ (text : List ℕ) (values : List Value) (n : ℕ) (before : Tapes) where
  abbrev Writes : List (List ℕ) → Tapes → UnitsAnswer → Option (Option TapeState) → Type 0
  Writes records after answer place = OnUnit place ((answer ≡ answers.Absent) × (after ≡ before)) (answer ≢ answers.Absent) (λ t. (v : TapeState) × (after ≡ with_tape before n v) × WritesTape records t answer v)

  -- an answer that leaves all as it was
  stays : (answer : Printed) → answer ≢ Absent → ((t : TapeState) → before ≡ with_tape before n t → PrintsTape text values n t before before answer) → IfThere (unit_at before n) (Prints text values n before before answer)
  stays answer there law = by_place (unit_at before n) refl
    where
      by_place : (place : Option (Option TapeState)) → unit_at before n ≡ place → IfThere place (On text values n before place before answer)
      by_place None e = tt
      by_place (Some None) e = there
      by_place (Some (Some t)) e = law t (sym (told_again before n t e))

  pub no_memory : IfThere (unit_at before n) (Prints text values n before before Memory)
  no_memory = stays Memory (λ e. cc) (λ t same. (0, same))

  pub no_format : format_of text ≡ None → IfThere (unit_at before n) (Prints text values n before before Unfit)
  no_format none =
      let out = laid_by_none text values none in
      stays Unfit (λ e. cc) (λ t same. rw out (refl, same))

  module _ (items : List Item) (read : format_of text ≡ Some items) where
    pub unfit : (out : Laid) → out ≡ laid.Unfit → out ≡ records_of items values → IfThere (unit_at before n) (Prints text values n before before Unfit)
    unfit given is exact =
        let out = laid_by_some text values items laid.Unfit read (sym is ∙ exact) in
        stays Unfit (λ e. cc) (λ t same. rw out (refl, same))

    pub real : (out : Laid) → out ≡ laid.Real → out ≡ records_of items values → IfThere (unit_at before n) (Prints text values n before before Real)
    real given is exact =
        let out = laid_by_some text values items laid.Real read (sym is ∙ exact) in
        stays Real (λ e. cc) (λ t same. rw out (refl, same))

    -- the answer of the writes of all records
    pub all_written : (out : Laid) (records : List (List ℕ)) (after : Tapes) (answer : UnitsAnswer) → out ≡ laid.Records records → out ≡ records_of items values → WritesAll records n before after answer → IfThere (unit_at before n) (Prints text values n before after (printed_by answer))
    all_written given records after answer are exact writes = by_place (unit_at before n) writes
      where
        there : (answer : UnitsAnswer) → answer ≢ answers.Absent → printed_by answer ≢ Absent
        there answers.Ok not e = cc
        there answers.Failed not e = cc
        there answers.Absent not e = absurd (not refl)
        there answers.Memory not e = cc

        out : laid_by text values ≡ Some (laid.Records records)
        out = laid_by_some text values items (laid.Records records) read (sym are ∙ exact)

        told : (answer : UnitsAnswer) (t v : TapeState) → after ≡ with_tape before n v → WritesTape records t answer v → PrintsTape text values n t before after (printed_by answer)
        told answers.Ok t v at (passed, same) = rw (out, passed) (refl, at ∙ ap (with_tape before n) same)
        told answers.Failed t v at (fails, same) = rw (out, fails) (refl, at ∙ ap (with_tape before n) same)
        told answers.Absent t v at w = absurd w
        told answers.Memory t v at (count, few, passed, same) = (count, rw out (at ∙ ap (with_tape before n) same))

        by_place : (place : Option (Option TapeState)) → Writes records after answer place → IfThere place (On text values n before place after (printed_by answer))
        by_place None w = tt
        by_place (Some None) w = there answer w
        by_place (Some (Some t)) (v, at, w) = told answer t v at w
