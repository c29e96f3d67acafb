use Rattle.sil_operands.proofs.Complete.{one_value}
use Rattle.sil_operands.proofs.laws.one_value_at_most.Goals as goal

pub returns : goal.returns
returns c field a b h k = one_value field a b h k
