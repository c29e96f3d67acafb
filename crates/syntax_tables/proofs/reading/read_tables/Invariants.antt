use Rattle.std.proofs.Common.{◌≡◌, ◌+◌, ◌≤◌, length}
use Rattle.syntax_tables.specs.TableFiles.{written_of, lines_of}
use Rattle.syntax_tables.specs.Going.{going_on}
use Rattle.syntax_tables.proofs.reading.read_tables.Given as goal

abbrev pub invariant-loop-line : goal.invariant-loop-line
invariant-loop-line l = record {
  read : written_of l.bytes ≡ going_on l.reader (lines_of l.rest);
  count : l.reader.number + length l.rest ≤ 2097153;
}

abbrev pub decreases-loop-line : goal.decreases-loop-line
decreases-loop-line l = length l.rest
