use Rattle.rv_operations.proofs.OpRules.{lengths}
use Rattle.rv_operations.proofs.laws.law_of_lengths.Goals as goal

pub returns : goal.returns
returns c = lengths
