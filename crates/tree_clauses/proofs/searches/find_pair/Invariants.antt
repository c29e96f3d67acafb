use Rattle.std.proofs.Common.{pos, length, ◌+◌}
use Rattle.tree_clauses.specs.PatternClauses.{pair_turn}
use Rattle.tree_clauses.proofs.LoopLaws.{WalkLeft}
use Rattle.tree_clauses.proofs.searches.find_pair.Given as goal

abbrev pub invariant-loop-i : goal.invariant-loop-i
invariant-loop-i l = record {
  left : WalkLeft (pair_turn l.cells l.first l.key l.size) (length l.cells.cells + 1) (pos 0) l.i l.offset;
}
