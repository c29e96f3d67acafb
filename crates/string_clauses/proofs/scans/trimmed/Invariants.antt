use Rattle.std.proofs.Common.{◌≡◌, ◌-◌, ◌+◌}
use Rattle.string_clauses.specs.StringClauses.{all_blank, trim_turn}
use Rattle.string_clauses.specs.Walks.{walk}
use Rattle.string_clauses.proofs.scans.trimmed.Given as goal

-- the characters that are passed are blanks
abbrev pub invariant-loop-i : goal.invariant-loop-i
invariant-loop-i l =
    (walk (trim_turn l.cells l.at) all_blank l.i (l.length - l.i) l.left ≡ walk (trim_turn l.cells l.at) all_blank 0 l.length l.length)
    × (l.left + l.i ≡ l.length)
