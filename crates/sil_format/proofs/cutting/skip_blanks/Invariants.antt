use Rattle.std.proofs.Common.{◌≡◌, ◌≤◌, length}
use Rattle.sil_format.specs.FormatReading.{skip_blanks}
use Rattle.sil_format.proofs.cutting.skip_blanks.Given as goal

abbrev pub invariant-loop-more : goal.invariant-loop-more
invariant-loop-more l = record {
  rest : skip_blanks l.bytes ≡ skip_blanks l.rest;
  shorter : length l.rest ≤ length l.bytes;
}

abbrev pub decreases-loop-more : goal.decreases-loop-more
decreases-loop-more l = length l.rest
