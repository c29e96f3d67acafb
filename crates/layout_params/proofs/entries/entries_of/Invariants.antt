use Rattle.std.proofs.Common.{◌≡◌, ◌+◌, [], ◌++◌, drop}
use Rattle.layout_params.specs.ParameterLines.{entries_from}
use Rattle.layout_params.specs.ParameterFaults.{name_fault}
use Rattle.sil_base.specs.Names.{texts_of}
use Rattle.layout_params.specs.HeldEntries.{entries_held}
use Rattle.layout_params.proofs.entries.entries_of.Given as goal

-- the entries so far, and those of the rest; no name so far has a fault
abbrev pub invariant-loop-index : goal.invariant-loop-index
invariant-loop-index l = record {
  entries : entries_from 1 (texts_of l.lines) ≡ entries_held l.entries.items ++ entries_from (l.index + 1) (texts_of (drop l.index l.lines));
  names : name_fault [] (entries_from 1 (texts_of l.lines)) ≡ name_fault (entries_held l.entries.items) (entries_from (l.index + 1) (texts_of (drop l.index l.lines)));
}
