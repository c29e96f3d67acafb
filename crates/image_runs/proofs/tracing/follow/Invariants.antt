use Rattle.std.proofs.Common.{List, ℕ}
use Rattle.command_report.specs.Noted.{NotesMore}
use Rattle.sil_base.specs.declared.sink.Put.TheVariants as puts
use Rattle.image_runs.specs.FollowedRuns.{Follows}
use Rattle.image_runs.proofs.tracing.follow.Given as goal

-- the steps so far, and their lines
abbrev pub invariant-loop-turn : goal.invariant-loop-turn
invariant-loop-turn g l =
    (lines : List ℕ) × Follows l.image l.turn l.initial.cpu l.cpu lines (g.U.UnitSet.seen l.initial.units) (g.U.UnitSet.seen l.units)
    × NotesMore puts.Ok lines l.put (g.N.Sink.text l.initial.notes) (g.N.Sink.text l.notes) (g.N.Sink.faults l.initial.notes) (g.N.Sink.faults l.notes)
