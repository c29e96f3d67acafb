use Rattle.rv_straight.proofs.Effects.{acts}
use Rattle.rv_straight.proofs.laws.law_of_effects.Goals as goal

pub returns : goal.returns
returns c = acts
