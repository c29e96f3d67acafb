use Rattle.std.proofs.Common.{subst, sym, ap, ◌∙◌}
use Rattle.std.proofs.lemmas.List.{append-nil}
use Rattle.command_report.specs.Noted.{NotesMore}
use Rattle.command_report.proofs.Noting.{notes-none}
use Rattle.rv_emulate.specs.EmulatorRuns.{listed}
use Rattle.image_runs.specs.TracedRuns.{text_lines}
use Rattle.image_runs.proofs.tracing.note_met.Goals as goal

pub returns-in-Some : goal.returns-in-Some
returns-in-Some g c = λ tapes.
    subst (λ l. NotesMore c.args.so_far l c.note_made.result (g.N.Sink.text c.args.notes.now) (g.N.Sink.text c.note_made.new.notes) (g.N.Sink.faults c.args.notes.now) (g.N.Sink.faults c.note_made.new.notes))
    (sym (append-nil _) ∙ ap (λ o. text_lines c.args.image.now (listed o)) (c.in-Some.ensures c.args.image.now tapes c.requires))
    (c.note_made.ensures _ c.traced_line.ensures)

pub returns-in-None : goal.returns-in-None
returns-in-None g c = λ tapes.
    subst (λ l. NotesMore c.args.so_far l c.args.so_far (g.N.Sink.text c.args.notes.now) (g.N.Sink.text c.args.notes.now) (g.N.Sink.faults c.args.notes.now) (g.N.Sink.faults c.args.notes.now))
    (ap (λ o. text_lines c.args.image.now (listed o)) (c.in-None.ensures c.args.image.now tapes c.requires))
    (notes-none _ _ _)
