use Rattle.std.proofs.Common.{arith}
use Rattle.rv_emulate.proofs.Turns.{no_run, one_turn, last_turn, no_turn}
use Rattle.rv_emulate.proofs.hart.Hart.round.Goals as goal

pub loop-turn-init : goal.loop-turn-init
loop-turn-init g c = no_run _ _ _

pub loop-turn-preserved : goal.loop-turn-preserved
loop-turn-preserved g c = one_turn _ _ _ _ _ _ _ _ _ c.in-Next.is c.loop-turn.invariant c.turn-to.ensures

pub returns-in-Ended : goal.returns-in-Ended
returns-in-Ended g c = last_turn _ _ _ _ _ _ _ _ _ _ _ (omega arith) c.in-Ended.is c.loop-turn.invariant c.turn-to.ensures

pub returns : goal.returns
returns g c = no_turn _ _ _ _ _ _ _ (omega arith) c.loop-turn.invariant
