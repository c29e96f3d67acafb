use Rattle.std.proofs.Common.{◌≡◌, ◌≤◌, take}
use Rattle.sil_format.specs.FormatGrammar.{value_of}
use Rattle.sil_format.proofs.cutting.number_in.Given as goal

abbrev pub invariant-loop-byte : goal.invariant-loop-byte
invariant-loop-byte l = record {
  value : l.value ≡ value_of (take l.byte-index l.bytes);
  fits : l.value ≤ l.high;
}
