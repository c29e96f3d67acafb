use Rattle.rv_isa.proofs.Back.{one-word}
use Rattle.rv_isa.proofs.laws.one_word.Goals as goal

pub returns : goal.returns
returns c = one-word
