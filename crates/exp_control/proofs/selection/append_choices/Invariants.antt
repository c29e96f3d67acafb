use Rattle.std.proofs.Common.{◌≡◌, ◌+◌, ◌*◌, length, take}
use Rattle.sil_micro.specs.Codes.{appended}
use Rattle.exp_control.specs.SelectionParts.{choices_code}
use Rattle.exp_control.proofs.selection.append_choices.Given as goal

abbrev pub invariant-loop-i : goal.invariant-loop-i
invariant-loop-i l = record {
  grown : l.code ≡ appended l.initial.code (choices_code l.k 1 (take l.i l.locations));
  count : length l.code.ops ≡ length l.initial.code.ops + 2 * l.i;
}
