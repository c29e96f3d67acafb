use Rattle.unit_io.proofs.Laws.{writes, writes_rise, writes_count}
use Rattle.unit_io.proofs.units.UnitsBoxDynUnitUnitSet.write_all.Goals as goal

pub returns-clause-tapes : goal.returns-clause-tapes
returns-clause-tapes g c = writes _ _ _ c.args.records.now c.write_all.result c.write_all.ensures.calls

pub returns-clause-failed : goal.returns-clause-failed
returns-clause-failed g c = writes_rise _ _ _ c.args.records.now c.write_all.result c.write_all.ensures.calls

pub returns-clause-counts : goal.returns-clause-counts
returns-clause-counts g c = writes_count _ _ _ c.args.records.now c.write_all.result c.write_all.ensures.calls
