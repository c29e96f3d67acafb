use Rattle.rv_operations.proofs.Fixing.{sets_constant}
use Rattle.rv_operations.proofs.OnRegisters.{copies, computes}
use Rattle.rv_operations.proofs.laws.law_of_registers.Goals as goal

pub returns-clause-constant : goal.returns-clause-constant
returns-clause-constant c = sets_constant

pub returns-clause-copy : goal.returns-clause-copy
returns-clause-copy c = copies

pub returns-clause-arith_of : goal.returns-clause-arith_of
returns-clause-arith_of c = computes
