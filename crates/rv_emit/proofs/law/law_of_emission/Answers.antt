use Rattle.rv_emit.proofs.Carries.{carries}
use Rattle.rv_emit.proofs.law.law_of_emission.Goals as goal

pub returns : goal.returns
returns c = carries
