use Rattle.command_report.proofs.Noting.{notes-none}
use Rattle.command_report.proofs.notes.note_ending.Goals as goal

pub returns-in-Words : goal.returns-in-Words
returns-in-Words g c = rw c.in-Words.is c.note.ensures

pub returns-in-Stopped : goal.returns-in-Stopped
returns-in-Stopped g c = rw c.in-Stopped.is c.note_stop.ensures

pub returns-in-Checked : goal.returns-in-Checked
returns-in-Checked g c = rw c.in-Checked.is (c.note_made.ensures _ c.checked.ensures)

pub returns-in-Installed : goal.returns-in-Installed
returns-in-Installed g c = rw c.in-Installed.is (c.note_made-in-Installed.ensures _ c.installed.ensures)

pub returns-in-Listed : goal.returns-in-Listed
returns-in-Listed g c = rw c.in-Listed.is (notes-none _ _ _)

pub returns-in-Ran : goal.returns-in-Ran
returns-in-Ran g c = rw c.in-Ran.is (c.note_made-in-Ran.ensures _ c.run_line.ensures)
