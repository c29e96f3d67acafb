use Rattle.std.proofs.Common.{◌≡◌, ◌+◌, ◌*◌, length, take}
use Rattle.sil_micro.specs.Codes.{appended}
use Rattle.exp_stack.specs.ListParts.{places_code}
use Rattle.exp_stack.proofs.addresses.append_places.Given as goal

abbrev pub invariant-loop-i : goal.invariant-loop-i
invariant-loop-i l = record {
  grown : l.code ≡ appended l.initial.code (places_code l.first (take l.i l.places));
  count : length l.code.ops ≡ length l.initial.code.ops + 3 * l.i;
}
