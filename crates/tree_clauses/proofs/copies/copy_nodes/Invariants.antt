use Rattle.std.proofs.Common.{length}
use Rattle.tree_clauses.specs.PatternClauses.{node_turn}
use Rattle.tree_clauses.proofs.LoopLaws.{WalkLeft}
use Rattle.tree_clauses.proofs.copies.copy_nodes.Given as goal

abbrev pub invariant-loop-i : goal.invariant-loop-i
invariant-loop-i l = record {
  left : WalkLeft (node_turn l.by) (length l.fn.cells.cells) (record { memory = l.fn.cells; at = l.fn.first }) l.i (record { memory = l.cells; at = l.at });
}
