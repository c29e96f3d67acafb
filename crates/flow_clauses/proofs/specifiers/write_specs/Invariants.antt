use Rattle.sil_model.specs.Lists.{all_specs_written}
use Rattle.sil_model.specs.Memory.{SameShape}
use Rattle.flow_clauses.proofs.Turns.{WritesLeft}
use Rattle.flow_clauses.proofs.specifiers.write_specs.Given as goal

abbrev pub invariant-loop-i : goal.invariant-loop-i
invariant-loop-i l = record {
  writes : WritesLeft all_specs_written l.initial.cells l.cells l.places l.values l.i;
  keeps : SameShape l.initial.cells l.cells;
}
