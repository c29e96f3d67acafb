use Rattle.unit_io.proofs.Laws.{finishes_few}
use Rattle.unit_io.proofs.units.Units+Box+dyn+Unit.close_all.Goals as goal

pub returns-clause-few : goal.returns-clause-few
returns-clause-few g c = finishes_few _ _ _ c.finish_all.ensures.units
