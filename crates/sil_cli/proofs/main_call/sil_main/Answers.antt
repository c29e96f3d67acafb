use Rattle.std.proofs.Common.{rules}
use Rattle.command_report.proofs.Noting.{notes-then}
use Rattle.sil_cli.proofs.Statuses.{status-words, status-refused, status-store, status-missing, status-too-long, status-parameters, status-faults, status-image, status-not-built, status-stops, status-notes, status-never}
use Rattle.sil_cli.proofs.Whole.{headline, simulated, reported}
use Rattle.sil_cli.proofs.main_call.sil_main.Goals as goal

pub returns-clause-answers : goal.returns-clause-answers
returns-clause-answers g c = record {
  ending = c.perform-came.result.ending;
  lines = c.perform-came.ensures.lines;
  between = g.U.UnitSet.seen c.perform-came.new.units;
  failed = c.finish-failed.result;
  put = c.note_finishes-put.result;
  performs = c.perform-came.ensures.performs;
  finishes = c.finish-failed.ensures;
  noted = notes-then _ _ _ _ _ _ _ _ _ _ _ c.note_ending-line.ensures c.note_finishes-put.ensures c.perform-came.ensures.lines _ _ c.perform-came.ensures.noted;
  status = search rules;
}

pub returns-clause-words : goal.returns-clause-words
returns-clause-words g c = status-words (returns-clause-answers g c)

pub returns-clause-refused : goal.returns-clause-refused
returns-clause-refused g c = status-refused (returns-clause-answers g c)

pub returns-clause-store_fault : goal.returns-clause-store_fault
returns-clause-store_fault g c = status-store (returns-clause-answers g c)

pub returns-clause-missing : goal.returns-clause-missing
returns-clause-missing g c = status-missing (returns-clause-answers g c)

pub returns-clause-too_long : goal.returns-clause-too_long
returns-clause-too_long g c = status-too-long (returns-clause-answers g c)

pub returns-clause-parameters : goal.returns-clause-parameters
returns-clause-parameters g c = status-parameters (returns-clause-answers g c)

pub returns-clause-faults : goal.returns-clause-faults
returns-clause-faults g c = status-faults (returns-clause-answers g c)

pub returns-clause-not_built : goal.returns-clause-not_built
returns-clause-not_built g c = status-not-built (returns-clause-answers g c)

pub returns-clause-stops : goal.returns-clause-stops
returns-clause-stops g c = status-stops (returns-clause-answers g c)

pub returns-clause-notes_fault : goal.returns-clause-notes_fault
returns-clause-notes_fault g c = status-notes (returns-clause-answers g c)

pub returns-clause-never : goal.returns-clause-never
returns-clause-never g c = status-never (returns-clause-answers g c)

pub returns-clause-headline : goal.returns-clause-headline
returns-clause-headline g c = headline (returns-clause-answers g c)

pub returns-clause-simulated : goal.returns-clause-simulated
returns-clause-simulated g c = simulated (returns-clause-answers g c)

pub returns-clause-reported : goal.returns-clause-reported
returns-clause-reported g c = reported (returns-clause-answers g c)

pub returns-clause-refused_image : goal.returns-clause-refused_image
returns-clause-refused_image g c = status-image (returns-clause-answers g c)
