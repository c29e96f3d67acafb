use Rattle.sil_micro.proofs.code.push_piece.Goals as goal
use Rattle.sil_micro.proofs.Placing.{fits_at, rules_so_far}

pub moved-requires-clause-fits : goal.moved-requires-clause-fits
moved-requires-clause-fits c = fits_at _ _ _ _ c.requires.part c.loop-op-test.true

pub returns-in_err-push-clause-rules : goal.returns-in_err-push-clause-rules
returns-in_err-push-clause-rules c = rw (c.in_err-push.ensures.items, c.loop-op.invariant.1) (rules_so_far c.len-base.result c.loop-op.op-index c.args.ops.now.items c.args.piece.now c.requires.part c.requires.rules)

pub returns-clause-rules : goal.returns-clause-rules
returns-clause-rules c = rw c.loop-op.invariant.1 (rules_so_far c.len-base.result c.loop-op.op-index c.args.ops.now.items c.args.piece.now c.requires.part c.requires.rules)
