use Rattle.data_asm.proofs.StandLemmas.{stands}
use Rattle.data_asm.proofs.law.law_of_static_cells.Goals as goal

pub returns : goal.returns
returns c = stands c.law_of_sizes.ensures
