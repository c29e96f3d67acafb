use Rattle.std.proofs.Common.{◌≡◌, ◌-◌, ◌++◌, length, take}
use Rattle.sil_model.specs.Lists.{line}
use Rattle.flow_clauses.proofs.lists.line.Given as goal

abbrev pub invariant-loop-i : goal.invariant-loop-i
invariant-loop-i l = record {
  size : length l.places ≡ 40;
  made : line l.at l.step l.count ≡ take l.i l.places ++ line l.next l.step (l.count - l.i);
}
