use Rattle.std.proofs.Common.{◌≡◌, ◌<◌, arith, sym, ap, subst, ◌∙◌, true, false, length, get_or, Some, set}
use Rattle.std.specs.Option.{option_copied}
use Rattle.sil_symbols.specs.Expressions.{is_circular}
use Rattle.sil_symbols.specs.HeldNames.{names_in, equation_of, AreSettling}
use Rattle.sil_symbols.specs.declared.outcome.Outcome.TheVariants.{NoValue}
use Rattle.sil_symbols.proofs.Agreement.{outcome_of-known}
use Rattle.sil_symbols.proofs.Rounds.{settling_now, quiet_circle, settled_count-set}
use Rattle.sil_symbols.proofs.settling.settle_at.Goals as goal

pub returns-then-is_circular-clause-done : goal.returns-then-is_circular-clause-done
returns-then-is_circular-clause-done c = λ _ labels settling.
    let s = c.index-statements-place.result in
    let equation : equation_of s ≡ Some c.in-Some.terms.now = sym c.equation_of.ensures ∙ ap option_copied c.in-Some.is in
    quiet_circle c.args.names.now c.args.statements.now labels c.args.outcomes.now settling c.args.place s c.in-Some.terms.now c.requires.within c.index-statements-place.is equation
    (sym c.if-is_circular.ensures)

pub returns-clause-sound : goal.returns-clause-sound
returns-clause-sound c = λ labels settling.
    let was : is_circular (get_or c.args.outcomes.now c.args.place NoValue) ≡ true = ap is_circular (sym c.outcome_at.ensures) ∙ sym c.is_circular.ensures ∙ c.if-not-is_circular.false in
    let s = c.index-statements-place.result in
    let equation : equation_of s ≡ Some c.in-Some.terms.now = sym c.equation_of.ensures ∙ ap option_copied c.in-Some.is in
    subst (λ o. AreSettling c.args.names.now c.args.statements.now labels (set c.args.outcomes.now c.args.place o)) (sym c.outcome_of.ensures)
    (settling_now c.args.names.now c.args.statements.now labels c.args.outcomes.now settling c.args.place s c.in-Some.terms.now c.requires.within c.index-statements-place.is equation was
    (sym c.if-is_circular.ensures))

pub returns-clause-more : goal.returns-clause-more
returns-clause-more c = λ _.
    let was : is_circular (get_or c.args.outcomes.now c.args.place NoValue) ≡ true = ap is_circular (sym c.outcome_at.ensures) ∙ sym c.is_circular.ensures ∙ c.if-not-is_circular.false in
    let known : is_circular c.outcome_of.result ≡ false = ap is_circular c.outcome_of.ensures ∙ outcome_of-known (names_in c.args.names.now c.args.outcomes.now) c.in-Some.terms.now (sym c.if-is_circular.ensures) in
    let within : c.args.place < length c.args.outcomes.now = omega arith in
    omega (arith, settled_count-set c.args.outcomes.now c.args.place c.outcome_of.result within was known)
