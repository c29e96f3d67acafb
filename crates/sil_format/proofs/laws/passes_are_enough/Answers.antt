use Rattle.sil_format.proofs.PassLemmas.{enough_passes}
use Rattle.sil_format.proofs.laws.passes_are_enough.Goals as goal

pub returns : goal.returns
returns c items values n h = enough_passes items values n h
