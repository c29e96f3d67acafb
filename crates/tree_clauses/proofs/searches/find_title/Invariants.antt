use Rattle.std.proofs.Common.{pos, length}
use Rattle.tree_clauses.specs.PatternClauses.{title_turn}
use Rattle.tree_clauses.proofs.LoopLaws.{WalkLeft}
use Rattle.tree_clauses.proofs.searches.find_title.Given as goal

abbrev pub invariant-loop-i : goal.invariant-loop-i
invariant-loop-i l = record {
  left : WalkLeft (title_turn l.cells l.from l.flags) (length l.cells.cells) (pos 0) l.i l.back;
}
