use Rattle.std.proofs.Common.{◌≡◌, ◌++◌, length}
use Rattle.data_asm.specs.CharacterCells.{text_cells}
use Rattle.data_asm.proofs.texts.push_text.Given as goal

abbrev pub invariant-loop-rest : goal.invariant-loop-rest
invariant-loop-rest l = l.cells.items ++ text_cells l.size l.rest ≡ l.initial.cells.items ++ text_cells l.size l.initial.rest

abbrev pub decreases-loop-rest : goal.decreases-loop-rest
decreases-loop-rest l = length l.rest
