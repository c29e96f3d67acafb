use Rattle.std.proofs.Common.{pos}
use Rattle.tree_clauses.specs.PatternClauses.{cell_turn}
use Rattle.tree_clauses.proofs.LoopLaws.{EachLeft}
use Rattle.tree_clauses.proofs.blocks.move_cells.Given as goal

abbrev pub invariant-loop-i : goal.invariant-loop-i
invariant-loop-i l = record {
  left : EachLeft (cell_turn l.to l.from) l.count (record { memory = l.fn.cells; offset = pos l.fn.cells.limits.cell_size }) l.i (record { memory = l.cells; offset = l.offset });
}
