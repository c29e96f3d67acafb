use Rattle.std.proofs.Common.{◌+◌, ◌*◌, ◌^◌, ◌%◌, arith}
use Rattle.rv_emulate.proofs.Turns.{no_run, one_round, last_round}
use Rattle.rv_emulate.proofs.hart.Hart.run.Goals as goal

pub loop-round-init : goal.loop-round-init
loop-round-init g c = no_run _ _ _

pub loop-round-preserved : goal.loop-round-preserved
loop-round-preserved g c =
    one_round _ (c.loop-round.round * 2 ^ 32) (2 ^ 32) ((c.loop-round.round + 1) * 2 ^ 32) _ _ _ _ _ _ _ (omega arith) c.loop-round.invariant c.in_default.ensures

pub returns-in-Some : goal.returns-in-Some
returns-in-Some g c =
    last_round _ (c.loop-round.round * 2 ^ 32) (2 ^ 32) c.args.budget _ _ _ _ _ _ _ (omega (arith, c.loop-round-test.true)) c.loop-round.invariant c.in-Some.ensures

pub returns : goal.returns
returns g c =
    one_round _ (c.loop-round.round * 2 ^ 32) (c.args.budget % 2 ^ 32) c.args.budget _ _ _ _ _ _ _ (omega (arith, c.loop-round-test.false, c.loop-round.auto.round-end)) c.loop-round.invariant c.round-2.ensures
