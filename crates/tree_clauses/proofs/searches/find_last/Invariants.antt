use Rattle.std.proofs.Common.{pos, length}
use Rattle.tree_clauses.specs.PatternClauses.{link_turn}
use Rattle.tree_clauses.proofs.LoopLaws.{WalkLeft}
use Rattle.tree_clauses.proofs.searches.find_last.Given as goal

abbrev pub invariant-loop-i : goal.invariant-loop-i
invariant-loop-i l = record {
  left : WalkLeft (link_turn l.cells l.first) (length l.cells.cells) (pos 0) l.i l.offset;
}
