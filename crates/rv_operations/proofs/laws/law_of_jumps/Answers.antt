use Rattle.rv_operations.proofs.Jumping.{jumps_to, jumps_if}
use Rattle.rv_operations.proofs.laws.law_of_jumps.Goals as goal

pub returns-clause-jump : goal.returns-clause-jump
returns-clause-jump c = jumps_to

pub returns-clause-jump_if : goal.returns-clause-jump_if
returns-clause-jump_if c = jumps_if
