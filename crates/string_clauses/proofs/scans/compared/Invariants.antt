use Rattle.std.proofs.Common.{◌≡◌, ◌-◌}
use Rattle.string_clauses.specs.StringClauses.{all_equal, compare_turn}
use Rattle.string_clauses.specs.Walks.{walk}
use Rattle.string_clauses.proofs.scans.compared.Given as goal

-- the pairs that are left give what all of them give
abbrev pub invariant-loop-i : goal.invariant-loop-i
invariant-loop-i l =
    walk (compare_turn l.cells l.at1 l.at2) all_equal l.i (l.count - l.i) l.numbers
    ≡ walk (compare_turn l.cells l.at1 l.at2) all_equal 0 l.count l.fn.lengths
