use Rattle.std.proofs.Common.{◌<◌, length, ◌∙◌, arith}
use Rattle.rv_emit.proofs.Steps.{statement_more}
use Rattle.rv_emit.proofs.emitted.statement_places.Goals as goal

pub loop-k-preserved : goal.loop-k-preserved
loop-k-preserved c =
    let lt : c.loop-k.k < length c.args.plan.now.code.now.entries = omega (arith, c.statements-k-end.ensures.value) in
    c.in_ok-push.ensures.items ∙ statement_more c.args.plan.now.params.now.settings c.args.plan.now.code.now c.loop-k.places.items c.loop-k.k c.from.result lt (c.from.ensures ∙ c.statement.ensures) c.loop-k.invariant
