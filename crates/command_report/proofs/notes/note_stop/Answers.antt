use Rattle.std.proofs.Common.{sym}
use Rattle.command_report.proofs.notes.note_stop.Goals as goal

pub returns-in-Missing : goal.returns-in-Missing
returns-in-Missing g c = rw c.in-Missing.is (c.note_made.ensures _ c.named.ensures)

pub returns-in-TooLong : goal.returns-in-TooLong
returns-in-TooLong g c = rw c.in-TooLong.is (c.note_made-in-TooLong.ensures _ c.named-in-TooLong.ensures)

pub returns-in-StoreFault : goal.returns-in-StoreFault
returns-in-StoreFault g c = rw c.in-StoreFault.is (c.note_made-in-StoreFault.ensures _ c.named-in-StoreFault.ensures)

pub returns-in-Parameters : goal.returns-in-Parameters
returns-in-Parameters g c = rw c.in-Parameters.is c.note_fault.ensures

pub returns-in-Faults : goal.returns-in-Faults
returns-in-Faults g c = rw (c.in-Faults.is, sym c.items.ensures) c.note_faults.ensures

pub returns-in-NotBuilt : goal.returns-in-NotBuilt
returns-in-NotBuilt g c = rw c.in-NotBuilt.is c.note.ensures

pub returns-in-ImageRefused : goal.returns-in-ImageRefused
returns-in-ImageRefused g c = rw (c.in-ImageRefused.is, sym c.from.ensures) (c.note_made-in-ImageRefused.ensures _ c.numbered.ensures)

pub returns-in-Memory : goal.returns-in-Memory
returns-in-Memory g c = rw c.in-Memory.is c.note-in-Memory.ensures
