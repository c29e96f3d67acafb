use Rattle.rv_emulate.proofs.ReadLaws.{one_character_more}
use Rattle.rv_emulate.proofs.operands.characters.Goals as goal

pub loop-k-preserved : goal.loop-k-preserved
loop-k-preserved c = one_character_more c.loop-k.k c.args.bytes.now c.loop-k.values.items c.push.new.self.items c.loop-k-test.true c.in_ok-push.ensures.items c.loop-k.invariant
