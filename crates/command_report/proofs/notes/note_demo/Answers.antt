use Rattle.command_report.proofs.notes.note_demo.Goals as goal

pub returns : goal.returns
returns g c = c.note_made.ensures _ c.demo.ensures
