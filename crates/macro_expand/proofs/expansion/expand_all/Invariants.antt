use Rattle.macro_expand.proofs.Growing.{SoFar}
use Rattle.macro_expand.proofs.expansion.expand_all.Given as goal

abbrev pub invariant-loop-k : goal.invariant-loop-k
invariant-loop-k l = SoFar l.program l.k l.code
