use Rattle.sil_micro.proofs.Registers.{what_is_held}
use Rattle.sil_micro.proofs.laws.law_of_registers.Goals as goal

pub returns : goal.returns
returns c = λ r i j value below_i below_j. what_is_held r value i below_i j below_j
