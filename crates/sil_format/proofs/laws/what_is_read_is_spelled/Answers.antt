use Rattle.sil_format.proofs.Sound.{format_sound}
use Rattle.sil_format.proofs.laws.what_is_read_is_spelled.Goals as goal

pub returns : goal.returns
returns c bytes items h = format_sound bytes items h
