use Rattle.unit_clauses.specs.UnitTable.{unit_clause}
use Rattle.sil_runs.specs.Table.{clause}
use Rattle.sil_machine.proofs.dispatch.perform_on_units.Goals as goal

pub returns-in-Bkspce-clause-meets : goal.returns-in-Bkspce-clause-meets
unfolding clause unit_clause
returns-in-Bkspce-clause-meets g c k steps = rw c.in-Bkspce.is (c.backspace.ensures.meets k steps)

pub returns-in-Enfile-clause-meets : goal.returns-in-Enfile-clause-meets
unfolding clause unit_clause
returns-in-Enfile-clause-meets g c k steps = rw c.in-Enfile.is (c.endfile.ensures.meets k steps)

pub returns-in-Rewind-clause-meets : goal.returns-in-Rewind-clause-meets
unfolding clause unit_clause
returns-in-Rewind-clause-meets g c k steps = rw c.in-Rewind.is (c.rewind.ensures.meets k steps)
