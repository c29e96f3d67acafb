use Rattle.std.proofs.Common.{◌≡◌, ◌+◌, ◌*◌, ◌++◌, length, map}
use Rattle.std.specs.List.{flat_map}
use Rattle.image_file.specs.Image.{entry_of}
use Rattle.image_file.specs.Spelling.{entry_part}
use Rattle.image_file.specs.ImageReading.{FitEntries}
use Rattle.image_file.proofs.entries.read_entries.Given as goal

-- the bytes of the entries so far are behind, and the others are left
abbrev pub invariant-loop-entry : goal.invariant-loop-entry
invariant-loop-entry l = record {
  size : 16 * length l.entries.items + length l.rest ≡ length l.fn.bytes;
  bytes : l.fn.bytes ≡ flat_map entry_part (map entry_of l.entries.items) ++ l.rest;
  fit : FitEntries (map entry_of l.entries.items);
}

abbrev pub decreases-loop-entry : goal.decreases-loop-entry
decreases-loop-entry l = length l.rest
