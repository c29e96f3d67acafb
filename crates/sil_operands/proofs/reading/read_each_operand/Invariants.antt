use Rattle.std.proofs.Common.{◌≡◌, length}
use Rattle.sil_operands.specs.Limits.{card_limits}
use Rattle.sil_operands.specs.OperandReading.{each, operand_parts, operand_in}
use Rattle.sil_operands.specs.declared.cutting.Place.TheVariants.{Outside}
use Rattle.sil_operands.proofs.Each.{after}
use Rattle.sil_operands.proofs.reading.read_each_operand.Given as goal

abbrev pub invariant-loop-part : goal.invariant-loop-part
invariant-loop-part l =
    each (operand_in card_limits) (operand_parts Outside l.field) ≡ after l.operands.items (each (operand_in card_limits) (operand_parts Outside l.rest))

abbrev pub decreases-loop-part : goal.decreases-loop-part
decreases-loop-part l = length l.rest
