use Rattle.rv_straight.proofs.JumpsIf.{jumps_if}
use Rattle.rv_straight.proofs.laws.law_of_jumps.Goals as goal

pub returns : goal.returns
returns c = jumps_if
