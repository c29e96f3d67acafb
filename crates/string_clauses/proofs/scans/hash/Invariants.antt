use Rattle.std.proofs.Common.{◌≡◌, ◌-◌, ◌<◌, ◌^◌}
use Rattle.string_clauses.specs.StringClauses.{hash_turn}
use Rattle.string_clauses.specs.Walks.{each}
use Rattle.string_clauses.proofs.scans.hash.Given as goal

-- the characters that are left make of the hash what all of them make
abbrev pub invariant-loop-i : goal.invariant-loop-i
invariant-loop-i l =
    (each (hash_turn l.cells l.at) l.i (l.count - l.i) l.h ≡ each (hash_turn l.cells l.at) 0 l.count 0)
    × (l.h < 2 ^ 31)
