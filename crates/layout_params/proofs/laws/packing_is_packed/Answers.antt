use Rattle.layout_params.proofs.PackingLemmas.{packing-packed, length-packing, packing_below}
use Rattle.layout_params.proofs.laws.packing_is_packed.Goals as goal

pub returns-clause-packed : goal.returns-clause-packed
returns-clause-packed c = packing-packed

pub returns-clause-size : goal.returns-clause-size
returns-clause-size c = length-packing

pub returns-clause-bytes : goal.returns-clause-bytes
returns-clause-bytes c = packing_below
