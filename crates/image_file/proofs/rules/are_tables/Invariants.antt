use Rattle.std.proofs.Common.{◌≡◌, ◌/◌, length}
use Rattle.image_file.specs.TableEntries.{entries_fit}
use Rattle.image_file.proofs.rules.are_tables.Given as goal

-- the entries that are left decide
abbrev pub invariant-loop-entry : goal.invariant-loop-entry
invariant-loop-entry l = entries_fit l.count (length l.fn.tables / 16) l.fn.tables ≡ entries_fit l.count (length l.rest / 16) l.rest

abbrev pub decreases-loop-entry : goal.decreases-loop-entry
decreases-loop-entry l = length l.rest
