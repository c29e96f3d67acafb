use Rattle.std.proofs.Common.{arith}
use Rattle.sil_operands.proofs.Lists.{few_items, many_items}
use Rattle.sil_operands.proofs.expressions.read_items.Goals as goal

pub returns-then-count_of_byte-ge-MAX_LIST_ITEMS : goal.returns-then-count_of_byte-ge-MAX_LIST_ITEMS
returns-then-count_of_byte-ge-MAX_LIST_ITEMS c bad = many_items c.args.inner.now (omega (arith, c.count_of_byte.ensures))

pub returns : goal.returns
returns c = rw (few_items c.args.inner.now (omega (arith, c.count_of_byte.ensures))) c.read_each_item.ensures
