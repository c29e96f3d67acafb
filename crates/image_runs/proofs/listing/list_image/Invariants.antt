use Rattle.command_report.specs.Noted.{NotesMore}
use Rattle.sil_base.specs.declared.sink.Put.TheVariants as puts
use Rattle.image_runs.specs.Listings.{listed_lines}
use Rattle.image_runs.proofs.listing.list_image.Given as goal

-- the lines so far
abbrev pub invariant-loop-k : goal.invariant-loop-k
invariant-loop-k g l =
    NotesMore puts.Ok (listed_lines l.image l.k) l.put (g.N.Sink.text l.initial.notes) (g.N.Sink.text l.notes) (g.N.Sink.faults l.initial.notes) (g.N.Sink.faults l.notes)
