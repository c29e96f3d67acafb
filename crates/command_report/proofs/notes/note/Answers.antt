use Rattle.command_report.proofs.Noting.{notes-line}
use Rattle.command_report.proofs.notes.note.Goals as goal

pub returns-in-Ok : goal.returns-in-Ok
returns-in-Ok g c = rw c.in-Ok.is (notes-line _ _ _ _ _ _ _ (c.put.ensures.text, c.put.ensures.count, c.put.ensures.failed))
