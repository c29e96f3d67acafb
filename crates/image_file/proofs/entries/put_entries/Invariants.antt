use Rattle.std.proofs.Common.{◌≡◌, ◌++◌, drop, map}
use Rattle.std.specs.List.{flat_map}
use Rattle.image_file.specs.Image.{entry_of}
use Rattle.image_file.specs.Spelling.{entry_part}
use Rattle.image_file.proofs.entries.put_entries.Given as goal

-- what is written, and what is left to write
abbrev pub invariant-loop-place : goal.invariant-loop-place
invariant-loop-place l = l.out.items ++ flat_map entry_part (map entry_of (drop l.place-index l.entries)) ≡ l.initial.out.items ++ flat_map entry_part (map entry_of l.entries)
