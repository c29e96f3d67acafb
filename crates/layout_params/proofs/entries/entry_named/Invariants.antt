use Rattle.std.proofs.Common.{◌≡◌, drop}
use Rattle.layout_params.specs.Entries.{entry_named}
use Rattle.layout_params.specs.HeldEntries.{entries_held}
use Rattle.layout_params.proofs.entries.entry_named.Given as goal

-- it is not among the entries so far
abbrev pub invariant-loop-entry : goal.invariant-loop-entry
invariant-loop-entry l = entry_named (entries_held l.entries) l.name ≡ entry_named (entries_held (drop l.entry-index l.entries)) l.name
