use Rattle.std.proofs.Common.{◌≡◌, ◌+◌, ◌≤◌, drop}
use Rattle.sil_shapes.specs.Locations.{executable_count}
use Rattle.sil_shapes.proofs.locations.executable_count.Given as goal

abbrev pub invariant-loop-statement : goal.invariant-loop-statement
invariant-loop-statement l = record {
  counted : executable_count l.statements ≡ l.count + executable_count (drop l.statement-index l.statements);
  few : l.count ≤ l.statement-index;
}
