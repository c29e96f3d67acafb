use Rattle.std.proofs.Common.{◌≡◌, ◌++◌}
use Rattle.rv_emit.specs.Planned.{table_of}
use Rattle.rv_emit.proofs.Steps.{table_from}
use Rattle.rv_emit.proofs.switches.append_table.Given as goal

abbrev pub invariant-loop-k : goal.invariant-loop-k
invariant-loop-k l =
    l.code.items ++ table_from l.plan.params.now.settings l.plan.code.now l.switch l.routine l.k ≡ l.initial.code.items ++ table_of l.plan.params.now.settings l.plan.code.now l.switch
