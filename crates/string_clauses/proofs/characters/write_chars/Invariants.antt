use Rattle.std.proofs.Common.{◌≡◌, drop}
use Rattle.sil_model.specs.Memory.{SameShape}
use Rattle.string_clauses.specs.StringClauses.{chars_written}
use Rattle.string_clauses.proofs.characters.write_chars.Given as goal

-- the characters that are left do what all of them do
abbrev pub invariant-loop-i : goal.invariant-loop-i
invariant-loop-i l =
    (chars_written l.next (drop l.i l.text) l.cells ≡ chars_written l.at l.text l.fn.cells)
    × SameShape l.fn.cells l.cells
