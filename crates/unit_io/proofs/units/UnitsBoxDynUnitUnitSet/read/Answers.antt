use Rattle.unit_io.proofs.Laws.{reads_bytes, reads_rise, reads_count}
use Rattle.unit_io.proofs.units.UnitsBoxDynUnitUnitSet.read.Goals as goal

pub returns-clause-tapes : goal.returns-clause-tapes
returns-clause-tapes g c = reads_bytes _ _ _ c.read.result _ _ c.read.ensures.calls

pub returns-clause-failed : goal.returns-clause-failed
returns-clause-failed g c = reads_rise _ _ _ c.read.result _ _ c.read.ensures.calls

pub returns-clause-counts : goal.returns-clause-counts
returns-clause-counts g c = reads_count _ _ _ c.read.result _ _ c.read.ensures.calls
