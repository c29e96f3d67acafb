use Rattle.rv_straight.proofs.Reaching.{straight}
use Rattle.rv_straight.proofs.laws.law_of_straight_code.Goals as goal

pub returns : goal.returns
returns c = λ image last s code code_is n k ws m j gs r some room does. straight r j gs some room does
