use Rattle.std.proofs.Common.{subst, arith}
use Rattle.std.proofs.lemmas.List.{take_all}
use Rattle.command_report.specs.Endings.{fault_lines}
use Rattle.command_report.specs.Noted.{NotesMore}
use Rattle.command_report.proofs.Noting.{notes-none, notes-fault}
use Rattle.command_report.proofs.notes.note_faults.Goals as goal

pub loop-fault-init : goal.loop-fault-init
loop-fault-init g c = notes-none _ _ _

pub loop-fault-preserved : goal.loop-fault-preserved
loop-fault-preserved g c = notes-fault _ _ _ _ _ _ _ _ _ _ _ _ c.loop-fault-test.true c.loop-fault.invariant c.note_fault-put.ensures

pub returns : goal.returns
returns g c =
    subst (λ l. NotesMore c.args.so_far (fault_lines l) c.loop-fault.put (g.N.Sink.text c.args.notes.now) (g.N.Sink.text c.loop-fault.notes) (g.N.Sink.faults c.args.notes.now) (g.N.Sink.faults c.loop-fault.notes))
    (take_all c.loop-fault.fault-index c.args.faults.now (omega (arith, c.loop-fault-test.false))) c.loop-fault.invariant
