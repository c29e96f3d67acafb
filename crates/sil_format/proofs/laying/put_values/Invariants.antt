use Rattle.std.proofs.Common.{◌≡◌, ◌+◌, ◌-◌, ◌++◌, List, Bool, length, replicate}
use Rattle.sil_format.specs.Records.{Step}
use Rattle.sil_format.specs.Records.Step.{One}
use Rattle.sil_format.specs.Layout.{outcome}
use Rattle.sil_format.proofs.laying.put_values.Given as goal

abbrev pub invariant-loop : goal.invariant-loop
invariant-loop l = record {
  laid : (again : Bool) (more : List Step) → outcome again l.initial.sheet (replicate l.count (One l.kind) ++ more) l.values ≡ outcome again l.sheet (replicate (l.count - l.counter) (One l.kind) ++ more) l.left;
  taken : length l.left + l.counter ≡ length l.values;
}
