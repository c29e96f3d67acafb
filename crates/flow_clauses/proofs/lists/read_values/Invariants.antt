use Rattle.std.proofs.Common.{◌≡◌, length}
use Rattle.flow_clauses.proofs.Turns.{ReadSoFar, all_values_read}
use Rattle.flow_clauses.proofs.lists.read_values.Given as goal

abbrev pub invariant-loop-i : goal.invariant-loop-i
invariant-loop-i l = record {
  reads : ReadSoFar all_values_read l.cells l.places l.values l.i;
  size : length l.values ≡ 40;
}
