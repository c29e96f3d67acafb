use Rattle.std.proofs.Common.{◌≡◌, ◌-◌}
use Rattle.sil_model.specs.Memory.{SameShape}
use Rattle.string_clauses.specs.StringClauses.{replace_turn}
use Rattle.string_clauses.specs.Walks.{each}
use Rattle.string_clauses.proofs.copies.replace_chars.Given as goal

-- the turns that are left do what all of them do
abbrev pub invariant-loop-i : goal.invariant-loop-i
invariant-loop-i l =
    (each (replace_turn l.table l.at) l.i (l.count - l.i) l.cells ≡ each (replace_turn l.table l.at) 0 l.count l.fn.cells)
    × SameShape l.fn.cells l.cells
