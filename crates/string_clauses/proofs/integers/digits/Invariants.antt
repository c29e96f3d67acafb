use Rattle.std.proofs.Common.{◌≡◌, ◌+◌, ◌-◌, ◌≤◌}
use Rattle.string_clauses.specs.StringClauses.{counted, digit_turn}
use Rattle.string_clauses.specs.Walks.{walk}
use Rattle.string_clauses.proofs.integers.digits.Given as goal

-- the digits that are left give what all of them give
abbrev pub invariant-loop-i : goal.invariant-loop-i
invariant-loop-i l =
    (walk (digit_turn l.cells l.at l.limit) counted l.i (l.from + l.count - l.i) l.n ≡ walk (digit_turn l.cells l.at l.limit) counted l.from l.count 0)
    × (l.n ≤ l.limit)
