use Rattle.sil_format.proofs.Complete.{one_format}
use Rattle.sil_format.proofs.laws.one_format_at_most.Goals as goal

pub returns : goal.returns
returns c bytes a b h k = one_format bytes a b h k
