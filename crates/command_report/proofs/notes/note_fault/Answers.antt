use Rattle.command_report.proofs.notes.note_fault.Goals as goal

pub returns : goal.returns
returns g c = c.note_made.ensures _ c.fault_line.ensures
