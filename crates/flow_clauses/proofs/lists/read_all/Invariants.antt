use Rattle.std.proofs.Common.{◌≡◌, length, take}
use Rattle.std.specs.Prelude.{All}
use Rattle.sil_model.specs.Lists.{all_read}
use Rattle.sil_model.specs.Memory.{FitsDescr}
use Rattle.flow_clauses.proofs.Turns.{ReadSoFar}
use Rattle.flow_clauses.proofs.lists.read_all.Given as goal

abbrev pub invariant-loop-i : goal.invariant-loop-i
invariant-loop-i l = record {
  reads : ReadSoFar all_read l.cells l.places l.values l.i;
  fits : All (FitsDescr l.cells.limits) (take l.i l.values);
  size : length l.values ≡ 40;
}
