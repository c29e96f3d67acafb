use Rattle.std.proofs.Common.{◌≡◌, true, take}
use Rattle.std.specs.List.{list_all}
use Rattle.sil_format.specs.FormatGrammar.{is_digit_or_blank}
use Rattle.sil_format.proofs.cutting.cut_number.Given as goal

abbrev pub invariant-loop-at : goal.invariant-loop-at
invariant-loop-at l = list_all is_digit_or_blank (take l.at l.bytes) ≡ true
