use Rattle.std.proofs.Common.{◌≡◌, ◌++◌}
use Rattle.rv_emit.specs.Planned.{operations_of}
use Rattle.rv_emit.proofs.Steps.{ops_from}
use Rattle.rv_emit.proofs.operations.append_ops.Given as goal

abbrev pub invariant-loop-q : goal.invariant-loop-q
invariant-loop-q g l =
    l.code.items ++ ops_from l.plan.params.now.settings l.plan.code.now l.q ≡ l.initial.code.items ++ operations_of l.plan.params.now.settings l.plan.code.now
