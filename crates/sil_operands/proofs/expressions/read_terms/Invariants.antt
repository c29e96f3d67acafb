use Rattle.std.proofs.Common.{◌≡◌, length}
use Rattle.sil_operands.specs.Limits.{card_limits}
use Rattle.sil_operands.specs.OperandReading.{each, signed_parts, term_in}
use Rattle.sil_operands.proofs.Each.{after}
use Rattle.sil_operands.proofs.expressions.read_terms.Given as goal

abbrev pub invariant-loop-part : goal.invariant-loop-part
invariant-loop-part l =
    each (term_in card_limits) (signed_parts l.fn.minus l.text) ≡ after l.terms.items (each (term_in card_limits) (signed_parts l.minus l.rest))

abbrev pub decreases-loop-part : goal.decreases-loop-part
decreases-loop-part l = length l.rest
