use Rattle.std.proofs.Common.{◌≡◌, ◌++◌}
use Rattle.sil_program.specs.Statements.{statements_of}
use Rattle.sil_program.proofs.statements.statements_of.Given as goal

abbrev pub invariant-loop-card : goal.invariant-loop-card
invariant-loop-card l = statements_of l.fn.cards.items ≡ l.statements.items ++ statements_of l.card-iterator.rest.items
