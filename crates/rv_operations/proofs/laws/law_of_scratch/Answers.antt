use Rattle.rv_operations.proofs.ScratchOps.{loads_scratch, stores_scratch}
use Rattle.rv_operations.proofs.laws.law_of_scratch.Goals as goal

pub returns-clause-load : goal.returns-clause-load
returns-clause-load c = loads_scratch

pub returns-clause-store : goal.returns-clause-store
returns-clause-store c = stores_scratch
