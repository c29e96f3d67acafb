use Rattle.sil_operands.specs.Limits.{card_limits}
use Rattle.sil_operands.proofs.Sound.{operands_sound}
use Rattle.sil_operands.proofs.laws.what_is_read_is_spelled.Goals as goal

pub returns : goal.returns
returns c field operands h = operands_sound card_limits field operands h
