use Rattle.std.proofs.Common.{◌≡◌, length}
use Rattle.sil_operands.specs.Limits.{card_limits}
use Rattle.sil_operands.specs.OperandReading.{each, parts_at, item_in}
use Rattle.sil_operands.proofs.Each.{after}
use Rattle.sil_operands.proofs.expressions.read_each_item.Given as goal

abbrev pub invariant-loop-part : goal.invariant-loop-part
invariant-loop-part l = each (item_in card_limits) (parts_at 44 l.inner) ≡ after l.items.items (each (item_in card_limits) (parts_at 44 l.rest))

abbrev pub decreases-loop-part : goal.decreases-loop-part
decreases-loop-part l = length l.rest
