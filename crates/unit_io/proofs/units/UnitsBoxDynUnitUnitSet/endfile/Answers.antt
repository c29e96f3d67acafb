use Rattle.unit_io.proofs.Laws.{moves, moves_rise, moves_count}
use Rattle.unit_io.proofs.units.UnitsBoxDynUnitUnitSet.endfile.Goals as goal

pub returns-clause-tapes : goal.returns-clause-tapes
returns-clause-tapes g c = moves _ _ _ _ c.make_at.result c.make_at.ensures.calls

pub returns-clause-failed : goal.returns-clause-failed
returns-clause-failed g c = moves_rise _ _ _ _ c.make_at.result c.make_at.ensures.calls

pub returns-clause-counts : goal.returns-clause-counts
returns-clause-counts g c = moves_count _ _ _ _ c.make_at.result c.make_at.ensures.calls
