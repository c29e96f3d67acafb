use Rattle.std.proofs.Common.{◌∙◌, arith}
use Rattle.rv_emulate.proofs.FlatLaws.{all_words, one_word}
use Rattle.rv_emulate.proofs.start.flats.Goals as goal

pub loop-k-preserved : goal.loop-k-preserved
loop-k-preserved c =
    one_word c.loop-k.flats.items c.push.new.self.items c.flat_of.result c.args.words.now c.loop-k.k c.loop-k-test.true c.in_ok-push.ensures.items (c.flat_of.ensures ∙ c.decode.ensures.same) c.loop-k.invariant

pub returns : goal.returns
returns c = all_words c.loop-k.flats.items c.args.words.now c.loop-k.k (omega arith) c.loop-k.invariant
