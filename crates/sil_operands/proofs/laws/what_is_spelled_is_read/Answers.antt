use Rattle.sil_operands.specs.Limits.{card_limits}
use Rattle.sil_operands.proofs.Complete.{operands_complete}
use Rattle.sil_operands.proofs.laws.what_is_spelled_is_read.Goals as goal

pub returns : goal.returns
returns c field operands spelled keeps = operands_complete card_limits field operands spelled keeps
