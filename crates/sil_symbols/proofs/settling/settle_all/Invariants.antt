use Rattle.std.proofs.Common.{◌-◌, List, length}
use Rattle.sil_symbols.specs.NameValues.{Meaning}
use Rattle.sil_symbols.specs.HeldNames.{settled_count, AreSettling}
use Rattle.sil_symbols.proofs.settling.settle_all.Given as goal

abbrev pub invariant-loop : goal.invariant-loop
invariant-loop l = (labels : List Meaning) → AreSettling l.names l.statements labels l.fn.outcomes → AreSettling l.names l.statements labels l.outcomes

abbrev pub decreases-loop : goal.decreases-loop
decreases-loop l = length l.outcomes - settled_count l.outcomes
