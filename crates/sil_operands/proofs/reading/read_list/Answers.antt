use Rattle.sil_operands.proofs.Lists.{list_before, list_other}
use Rattle.sil_operands.proofs.reading.read_list.Goals as goal

pub returns-then-last-ne41 : goal.returns-then-last-ne41
returns-then-last-ne41 c bad = list_other c.args.bytes.now c.in-Some.inner.now c.in-Some.last.now c.in-Some.ensures.cases.0 c.if-last-ne41.true

pub returns : goal.returns
returns c = rw (list_before c.args.bytes.now c.in-Some.inner.now c.in-Some.last.now c.in-Some.ensures.cases.0 c.if-last-ne41.false) c.read_items.ensures
