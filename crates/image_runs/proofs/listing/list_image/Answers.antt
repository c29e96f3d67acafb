use Rattle.std.proofs.Common.{◌≡◌, ◌+◌, suc, length, subst, sym, ◌∙◌, arith}
use Rattle.sil_base.specs.declared.sink.Put.TheVariants as puts
use Rattle.command_report.specs.Noted.{NotesMore}
use Rattle.command_report.proofs.Noting.{noted-alone, notes-none, notes-then}
use Rattle.image_runs.specs.Listings.{listed_lines}
use Rattle.image_runs.proofs.listing.list_image.Goals as goal

pub loop-k-init : goal.loop-k-init
loop-k-init g c = notes-none _ _ _

pub loop-k-preserved : goal.loop-k-preserved
loop-k-preserved g c =
    let next : suc c.loop-k.k ≡ c.loop-k.k + 1 = omega arith in
    subst (λ j. NotesMore puts.Ok (listed_lines c.args.image.now j) c.note_made-put.result (g.N.Sink.text c.args.notes.now) (g.N.Sink.text c.note_made-put.new.notes) (g.N.Sink.faults c.args.notes.now) (g.N.Sink.faults c.note_made-put.new.notes)) next
    (notes-then _ _ _ _ _ _ _ _ _ _ _ c.loop-k.invariant (c.note_made-put.ensures _ c.listed_line.ensures))

pub returns : goal.returns
returns g c =
    let all : c.loop-k.k ≡ length c.args.image.now.statements = omega (arith, c.loop-k-test.false, c.loop-k.auto.k-end, c.statements-k-end.ensures.value) in
    noted-alone _ _ _ _ _ _
    (subst (λ j. NotesMore puts.Ok (listed_lines c.args.image.now j) c.loop-k.put (g.N.Sink.text c.args.notes.now) (g.N.Sink.text c.loop-k.notes) (g.N.Sink.faults c.args.notes.now) (g.N.Sink.faults c.loop-k.notes)) all c.loop-k.invariant)
