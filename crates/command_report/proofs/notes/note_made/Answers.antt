use Rattle.std.proofs.Common.{◌≡◌, subst, ◌∙◌}
use Rattle.command_report.specs.Noted.{NotesMore}
use Rattle.command_report.proofs.notes.note_made.Goals as goal

pub returns-in-Ok : goal.returns-in-Ok
returns-in-Ok g c = λ text is.
    let same : c.in-Ok.line.items ≡ text = rw c.in-Ok.is at is in
    subst (λ l. NotesMore c.args.so_far l c.note.result (g.N.Sink.text c.args.notes.now) (g.N.Sink.text c.note.new.notes) (g.N.Sink.faults c.args.notes.now) (g.N.Sink.faults c.note.new.notes)) (c.deref.ensures.value ∙ same) c.note.ensures
