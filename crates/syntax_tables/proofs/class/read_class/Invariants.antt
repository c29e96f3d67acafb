use Rattle.std.proofs.Common.{◌≡◌, length}
use Rattle.sil_operands.specs.OperandReading.{each}
use Rattle.syntax_tables.specs.TableTexts.{items_of}
use Rattle.syntax_tables.specs.Sayings.{item_in}
use Rattle.syntax_tables.proofs.Lists.{after}
use Rattle.syntax_tables.proofs.class.read_class.Given as goal

abbrev pub invariant-loop-part : goal.invariant-loop-part
invariant-loop-part l = each item_in (items_of l.text) ≡ after l.items.items (each item_in (items_of l.rest))

abbrev pub decreases-loop-part : goal.decreases-loop-part
decreases-loop-part l = length l.rest
