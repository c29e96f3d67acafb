use Rattle.sil_runs.proofs.Steady.{steady}
use Rattle.sil_runs.proofs.laws.law_of_steps.Goals as goal

pub returns : goal.returns
returns c = steady c.law_of_macros.ensures.placed
