use Rattle.std.proofs.Common.{take}
use Rattle.command_report.specs.Endings.{fault_lines}
use Rattle.command_report.specs.Noted.{NotesMore}
use Rattle.command_report.proofs.notes.note_faults.Given as goal

abbrev pub invariant-loop-fault : goal.invariant-loop-fault
invariant-loop-fault g l =
    NotesMore l.initial.put (fault_lines (take l.fault-index l.faults)) l.put (g.N.Sink.text l.initial.notes) (g.N.Sink.text l.notes) (g.N.Sink.faults l.initial.notes) (g.N.Sink.faults l.notes)
