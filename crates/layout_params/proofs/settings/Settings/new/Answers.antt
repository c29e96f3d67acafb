use Rattle.std.proofs.Common.{◌∙◌, sym, subst, refl, ap, lit<, ◌≡◌, ◌≤◌, ℕ, [], None, arith}
use Rattle.layout_params.specs.Parameters.{Settings, Parameters, AreLegal, AreLegalSettings, IsUnitNumber}
use Rattle.layout_params.specs.Entries.{line_named}
use Rattle.layout_params.specs.HeldEntries.{drafted}
use Rattle.layout_params.proofs.LegalLemmas.{faultless_legal, legal_faultless}
use Rattle.layout_params.proofs.settings.Settings.new.Goals as goal

one_is : (n : ℕ) → n ≡ 1 → IsUnitNumber n
one_is n e = (omega arith, omega arith)

with_units : (p : Parameters) → (p.input_unit ≡ 1) × (p.output_unit ≡ 1) × (p.punch_unit ≡ 1) → AreLegalSettings p.settings → AreLegal p
with_units p units h = record { settings = h; input = one_is p.input_unit units.0; output = one_is p.output_unit units.1; punch = one_is p.punch_unit units.2 }

pub of_draft-requires : goal.of_draft-requires
of_draft-requires c =
    (faultless_legal (line_named []) (drafted c.draft_of_numbers-draft.result) (sym c.value_fault.ensures ∙ c.in-None.is)).settings

pub returns-in-Some-clause-settings : goal.returns-in-Some-clause-settings
returns-in-Some-clause-settings c = λ s numbers date h.
    let p = drafted c.draft_of_numbers-draft.result in
    let same : p.settings ≡ s = c.draft_of_numbers-draft.ensures.settings s numbers date in
    let none = legal_faultless (line_named []) p (with_units p c.draft_of_numbers-draft.ensures.units (subst AreLegalSettings (sym same) h)) in
    let some = sym c.in-Some.is ∙ c.value_fault.ensures ∙ none in
    cc

pub returns-in-None-clause-settings : goal.returns-in-None-clause-settings
returns-in-None-clause-settings c = λ s numbers date. c.of_draft.ensures.value ∙ c.draft_of_numbers-draft.ensures.settings s numbers date
