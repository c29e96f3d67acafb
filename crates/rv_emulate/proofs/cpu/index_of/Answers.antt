use Rattle.std.proofs.Common.{◌∙◌}
use Rattle.rv_emulate.proofs.Places.{searched_position}
use Rattle.rv_emulate.proofs.cpu.index_of.Goals as goal

pub returns-clause-same : goal.returns-clause-same
returns-clause-same c =
    c.ok.ensures.value ∙ searched_position c.args.places.now c.args.pc c.binary_search.result c.requires c.binary_search.ensures.position
