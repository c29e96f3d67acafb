use Rattle.std.proofs.Common.{◌≡◌, ◌-◌}
use Rattle.string_clauses.specs.Walks.{each}
use Rattle.table_clauses.specs.SyntaxClauses.{plug_turn}
use Rattle.table_clauses.proofs.changes.plug_chars.Given as goal

-- the characters that are left make of the entries what all of them make
abbrev pub invariant-loop-i : goal.invariant-loop-i
invariant-loop-i l = each (plug_turn l.cells l.at l.entry) l.i (l.count - l.i) l.entries ≡ each (plug_turn l.cells l.at l.entry) 0 l.count l.fn.entries
