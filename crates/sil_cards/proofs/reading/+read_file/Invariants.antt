use Rattle.std.proofs.Common.{◌≡◌, ◌≤◌, ◌++◌, List, length, Some, suc}
use Rattle.sil_base.specs.Files.{Files}
use Rattle.sil_base.specs.Lines.{lines_of}
use Rattle.sil_cards.specs.Reads.{Read, file_read, lines_read}
use Rattle.sil_cards.specs.CardSteps.{going_on, IsGoing}
use Rattle.sil_cards.proofs.reading.+read_file.Given as goal

abbrev pub decreases-read_file : goal.decreases-read_file
decreases-read_file g l = l.deeper

abbrev pub invariant-loop-line : goal.invariant-loop-line
invariant-loop-line g l = record {
  kept : g.S.Store.files l.store ≡ g.S.Store.files l.fn.store;
  count : g.S.Store.faults l.fn.store ≤ g.S.Store.faults l.store;
  going : IsGoing l.reader;
  short : length l.rest ≤ 2097152;
  read : (files : Files) → g.S.Store.files l.fn.store ≡ Some files → (rest : List Read)
      → going_on l.fn.reader (file_read files (suc l.deeper) l.name ++ rest)
      ≡ going_on l.reader (lines_read (file_read files l.deeper) l.deeper (lines_of l.rest) ++ rest);
}

abbrev pub decreases-loop-line : goal.decreases-loop-line
decreases-loop-line g l = length l.rest
