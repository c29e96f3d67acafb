use Rattle.std.proofs.Common.{◌+◌, ap, subst, ◌∙◌, arith}
use Rattle.sil_base.specs.declared.sink.Put.TheVariants as puts
use Rattle.command_report.specs.Endings.{demo_line}
use Rattle.command_report.specs.Noted.{NotesMore}
use Rattle.command_report.proofs.Noting.{noted-alone}
use Rattle.sil_cli.proofs.Demos.{performs-demo, performs-unmade, performs-unrun}
use Rattle.sil_cli.proofs.Tellings.{tells-nothing}
use Rattle.sil_cli.proofs.demo.demo.Goals as goal

pub returns-in-Err : goal.returns-in-Err
returns-in-Err g c = tells-nothing _ _ _ _ _ _ _ _ _ _ _ _ c.quietly.ensures.ending c.quietly.ensures.put (performs-unmade _ _ _ _ _ _ c.in-Err.ensures.told (c.in-Err.ensures.cause _))

pub returns-in-Ok-run_image : goal.returns-in-Ok-run_image
returns-in-Ok-run_image g c = record {
  lines = demo_line c.args.numbers.now.cards c.len.result;
  performs = performs-demo _ _ c.in-Ok.image.items _ _ _ _ _ _ _ _ c.deref.ensures.value (ap (λ k. k + 2) c.from-cards.ensures) (c.len.ensures ∙ c.in-Ok.image.ok.0) c.in-Ok.ensures.told (omega (arith, c.args.numbers.now.few_cards)) c.in-Ok-run_image.ensures.ran c.in-Ok-run_image.ensures.faults;
  noted = noted-alone _ (demo_line c.args.numbers.now.cards c.len.result) _ _ _ _
      (subst (λ k. NotesMore puts.Ok (demo_line k c.len.result) c.note_demo-put.result (g.N.Sink.text c.args.notes.now) (g.N.Sink.text c.note_demo-put.new.notes) (g.N.Sink.faults c.args.notes.now) (g.N.Sink.faults c.note_demo-put.new.notes)) c.from-cards.ensures c.note_demo-put.ensures);
}

pub returns : goal.returns
returns g c = record {
  lines = demo_line c.args.numbers.now.cards c.len.result;
  performs = performs-unrun _ _ c.in-Ok.image.items _ _ _ _ _ _ _ c.deref.ensures.value c.in-Ok.ensures.told c.in-Err-run_image.ensures.accepts c.in-Err-run_image.ensures.still;
  noted = noted-alone _ (demo_line c.args.numbers.now.cards c.len.result) _ _ _ _
      (subst (λ k. NotesMore puts.Ok (demo_line k c.len.result) c.note_demo-put.result (g.N.Sink.text c.args.notes.now) (g.N.Sink.text c.note_demo-put.new.notes) (g.N.Sink.faults c.args.notes.now) (g.N.Sink.faults c.note_demo-put.new.notes)) c.from-cards.ensures c.note_demo-put.ensures);
}
