use Rattle.std.proofs.Common.{pos, length}
use Rattle.tree_clauses.specs.PatternClauses.{greatest, lowest_turn}
use Rattle.tree_clauses.proofs.LoopLaws.{WalkLeft}
use Rattle.tree_clauses.proofs.searches.find_lowest.Given as goal

abbrev pub invariant-loop-i : goal.invariant-loop-i
invariant-loop-i l = record {
  left : WalkLeft (lowest_turn l.cells l.node) (length l.cells.cells) (record { offset = pos 0; least = greatest }) l.i l.so_far;
}
