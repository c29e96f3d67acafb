use Rattle.std.proofs.Common.{sym, ◌∙◌}
use Rattle.sil_format.proofs.NumberLemmas.{at_mark, no_mark}
use Rattle.sil_format.proofs.cutting.cut_number.Goals as goal

pub returns-then-not-is_digit_or_blank-clause-number : goal.returns-then-not-is_digit_or_blank-clause-number
returns-then-not-is_digit_or_blank-clause-number c =
    c.split_at.ensures.front ∙ sym (at_mark c.args.bytes.now c.loop-at.at c.loop-at-test.true c.loop-at.invariant (sym c.if-not-is_digit_or_blank.ensures)).0

pub returns-then-not-is_digit_or_blank-clause-rest : goal.returns-then-not-is_digit_or_blank-clause-rest
returns-then-not-is_digit_or_blank-clause-rest c =
    c.split_at.ensures.back ∙ sym (at_mark c.args.bytes.now c.loop-at.at c.loop-at-test.true c.loop-at.invariant (sym c.if-not-is_digit_or_blank.ensures)).1

pub returns-clause-number : goal.returns-clause-number
returns-clause-number c = sym (no_mark c.args.bytes.now c.loop-at.at c.loop-at-test.false c.loop-at.invariant).0

pub returns-clause-rest : goal.returns-clause-rest
returns-clause-rest c = sym (no_mark c.args.bytes.now c.loop-at.at c.loop-at-test.false c.loop-at.invariant).1
