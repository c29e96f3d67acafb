use Rattle.std.proofs.Common.{arith, ap, ◌∙◌}
use Rattle.std.proofs.lemmas.List.{take_all}
use Rattle.sil_base.specs.Names.{value_of}
use Rattle.sil_base.proofs.Digits.{next_digit}
use Rattle.sil_base.proofs.names.digits_value.Goals as goal

pub returns-in_err-checked_mul : goal.returns-in_err-checked_mul
returns-in_err-checked_mul c =
    let next = next_digit c.args.digits.now c.loop-digit.digit-index c.requires c.loop-digit-test.true in
    let same = c.loop-digit.invariant.value in
    rw c.from_residual.ensures (λ small. c.in_err-checked_mul.ensures (omega arith))

pub returns-in_err-value : goal.returns-in_err-value
returns-in_err-value c =
    let next = next_digit c.args.digits.now c.loop-digit.digit-index c.requires c.loop-digit-test.true in
    let same = c.loop-digit.invariant.value in
    let product = c.in_ok-checked_mul.ensures in
    rw c.from_residual-in_err-value.ensures (λ small. c.in_err-value.ensures (omega (arith, c.from.ensures)))

pub loop-digit-preserved : goal.loop-digit-preserved
loop-digit-preserved c =
    let next = next_digit c.args.digits.now c.loop-digit.digit-index c.requires c.loop-digit-test.true in
    let same = c.loop-digit.invariant.value in
    let product = c.in_ok-checked_mul.ensures in
    let sum = c.in_ok-value.ensures in
    record { value = omega (arith, c.from.ensures); fits = omega arith }

pub returns : goal.returns
returns c =
    let whole = ap value_of (take_all c.loop-digit.digit-index c.args.digits.now (omega arith)) in
    let same = c.loop-digit.invariant.value ∙ whole in
    (omega (arith, c.loop-digit.invariant.fits), same)
