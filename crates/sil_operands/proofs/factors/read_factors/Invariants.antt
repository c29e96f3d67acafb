use Rattle.std.proofs.Common.{◌≡◌, length}
use Rattle.sil_operands.specs.Limits.{card_limits}
use Rattle.sil_operands.specs.OperandReading.{each, parts_at, factor_in}
use Rattle.sil_operands.proofs.Each.{after}
use Rattle.sil_operands.proofs.factors.read_factors.Given as goal

abbrev pub invariant-loop-part : goal.invariant-loop-part
invariant-loop-part l = each (factor_in card_limits) (parts_at 42 l.text) ≡ after l.factors.items (each (factor_in card_limits) (parts_at 42 l.rest))

abbrev pub decreases-loop-part : goal.decreases-loop-part
decreases-loop-part l = length l.rest
