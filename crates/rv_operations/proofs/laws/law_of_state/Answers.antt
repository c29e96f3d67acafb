use Rattle.rv_operations.proofs.StateOps.{loads_state, stores_state}
use Rattle.rv_operations.proofs.laws.law_of_state.Goals as goal

pub returns-clause-load : goal.returns-clause-load
returns-clause-load c = loads_state

pub returns-clause-store : goal.returns-clause-store
returns-clause-store c = stores_state
