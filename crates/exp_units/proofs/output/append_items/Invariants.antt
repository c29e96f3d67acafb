use Rattle.std.proofs.Common.{◌≡◌, ◌+◌, ◌*◌, length, take}
use Rattle.sil_micro.specs.Codes.{appended}
use Rattle.exp_units.specs.UnitParts.{items_code}
use Rattle.exp_units.proofs.output.append_items.Given as goal

abbrev pub invariant-loop-i : goal.invariant-loop-i
invariant-loop-i l = record {
  grown : l.code ≡ appended l.initial.code (items_code 0 (take l.i l.places));
  count : length l.code.ops ≡ length l.initial.code.ops + 4 * l.i;
}
