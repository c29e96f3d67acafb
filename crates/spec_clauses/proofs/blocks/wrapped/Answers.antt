use Rattle.std.proofs.Common.{arith}
use Rattle.std.proofs.lemmas.Int.{ints}
use Rattle.std.proofs.lemmas.Grind.{common_steps}
use Rattle.std.specs.Int.{int_wrap}
use Rattle.spec_clauses.proofs.blocks.wrapped.Goals as goal

pub returns : goal.returns
unfolding int_wrap
returns c = grind (arith, ints, common_steps)
