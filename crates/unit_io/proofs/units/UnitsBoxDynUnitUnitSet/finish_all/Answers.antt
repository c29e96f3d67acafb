use Rattle.unit_io.proofs.Laws.{finishes_told, finishes_counts}
use Rattle.unit_io.proofs.units.UnitsBoxDynUnitUnitSet.finish_all.Goals as goal

pub returns-clause-told : goal.returns-clause-told
returns-clause-told g c = finishes_told _ _ _ c.finish_all.ensures

pub returns-clause-counts : goal.returns-clause-counts
returns-clause-counts g c = finishes_counts _ _ _ c.finish_all.ensures
