use Rattle.std.proofs.Common.{sym}
use Rattle.rv_emit.proofs.plan.Plan.lead.Goals as goal

pub op-requires-clause-within : goal.op-requires-clause-within
op-requires-clause-within c =
    c.requires.can.whole.returns c.args.k c.in_ok-returns-in-ReturnPart.field-0 (sym c.in_ok-returns-in-ReturnPart.ensures)
