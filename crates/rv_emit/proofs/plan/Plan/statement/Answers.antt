use Rattle.std.proofs.Common.{sym}
use Rattle.rv_emit.proofs.Ops.{entry_near}
use Rattle.rv_emit.proofs.plan.Plan.statement.Goals as goal

pub op-requires-clause-within : goal.op-requires-clause-within
op-requires-clause-within c =
    entry_near c.args.self.now.code.now c.args.self.now.params.now.settings c.requires.can c.args.k c.in-Some.q (sym c.in-Some.ensures)
