use Rattle.rv_straight.proofs.Numbers.{constants}
use Rattle.rv_straight.proofs.laws.law_of_constants.Goals as goal

pub returns : goal.returns
returns c = constants
