use Rattle.rv_operations.proofs.AllOps.{ops}
use Rattle.rv_operations.proofs.OpRules.{lengths_in}
use Rattle.rv_operations.proofs.laws.law_of_ops.Goals as goal

pub returns-clause-does : goal.returns-clause-does
returns-clause-does c = ops

pub returns-clause-length : goal.returns-clause-length
returns-clause-length c = lengths_in
