use Rattle.rv_operations.proofs.Switching.{switches}
use Rattle.rv_operations.proofs.EntryOps.{jumps_by, jumps_back}
use Rattle.rv_operations.proofs.laws.law_of_entries.Goals as goal

pub returns-clause-switch : goal.returns-clause-switch
returns-clause-switch c = switches

pub returns-clause-jump : goal.returns-clause-jump
returns-clause-jump c = jumps_by

pub returns-clause-back : goal.returns-clause-back
returns-clause-back c = jumps_back
