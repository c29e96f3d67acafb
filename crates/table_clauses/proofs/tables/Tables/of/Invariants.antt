use Rattle.std.proofs.Common.{◌≡◌, take}
use Rattle.table_clauses.proofs.tables.Tables.of.Given as goal

-- the tables so far
abbrev pub invariant-loop-table : goal.invariant-loop-table
invariant-loop-table l = l.copies.items ≡ take l.table-index l.tables
