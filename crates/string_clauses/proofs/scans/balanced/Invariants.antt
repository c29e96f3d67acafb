use Rattle.std.proofs.Common.{◌≡◌, ◌-◌, ◌≤◌}
use Rattle.string_clauses.specs.StringClauses.{balance_turn, unbalanced}
use Rattle.string_clauses.specs.Walks.{walk}
use Rattle.string_clauses.proofs.scans.balanced.Given as goal

-- the turns that are left find what all of them find
abbrev pub invariant-loop-i : goal.invariant-loop-i
invariant-loop-i l =
    (walk (balance_turn l.cells l.at) unbalanced l.i (l.count - l.i) l.depth ≡ walk (balance_turn l.cells l.at) unbalanced 0 l.count 0)
    × (l.depth ≤ l.i)
