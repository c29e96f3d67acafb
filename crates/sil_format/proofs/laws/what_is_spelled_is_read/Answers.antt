use Rattle.sil_format.proofs.Complete.{format_complete}
use Rattle.sil_format.proofs.laws.what_is_spelled_is_read.Goals as goal

pub returns : goal.returns
returns c bytes items h = format_complete bytes items h
