use Rattle.rv_straight.proofs.AreInstrs.{words}
use Rattle.rv_straight.proofs.laws.law_of_words.Goals as goal

pub returns : goal.returns
returns c = words
