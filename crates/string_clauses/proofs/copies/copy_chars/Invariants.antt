use Rattle.std.proofs.Common.{◌≡◌, ◌-◌}
use Rattle.sil_model.specs.Memory.{SameShape}
use Rattle.string_clauses.specs.StringClauses.{copy_char}
use Rattle.string_clauses.specs.Walks.{each}
use Rattle.string_clauses.proofs.copies.copy_chars.Given as goal

-- the copies that are left do what all of them do
abbrev pub invariant-loop-i : goal.invariant-loop-i
invariant-loop-i l =
    (each (copy_char l.to l.from) l.i (l.count - l.i) l.cells ≡ each (copy_char l.to l.from) 0 l.count l.fn.cells)
    × SameShape l.fn.cells l.cells
