use Rattle.std.proofs.Common.{◌≡◌, ◌-◌}
use Rattle.string_clauses.specs.StringClauses.{pair_turn}
use Rattle.string_clauses.specs.Walks.{each}
use Rattle.string_clauses.proofs.copies.enter_pairs.Given as goal

-- the pairs that are left make of the table what all of them make
abbrev pub invariant-loop-i : goal.invariant-loop-i
invariant-loop-i l = each (pair_turn l.cells l.at2 l.at3) l.i (l.count - l.i) l.table ≡ each (pair_turn l.cells l.at2 l.at3) 0 l.count l.fn.table
