use Rattle.std.proofs.Common.{◌≡◌, ◌+◌, ◌++◌, List, Bool, length, drop, sum_by}
use Rattle.sil_format.specs.Records.{Step, steps_of, data_count}
use Rattle.sil_format.specs.Layout.{outcome}
use Rattle.sil_format.proofs.laying.put_items.Given as goal

abbrev pub invariant-loop-item : goal.invariant-loop-item
invariant-loop-item l = record {
  laid : (again : Bool) (more : List Step) → outcome again l.initial.sheet (steps_of l.items ++ more) l.values ≡ outcome again l.sheet (steps_of (drop l.item-index l.items) ++ more) l.left;
  taken : length l.left + sum_by data_count l.items ≡ length l.values + sum_by data_count (drop l.item-index l.items);
}
