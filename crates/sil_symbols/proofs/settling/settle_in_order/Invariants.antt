use Rattle.std.proofs.Common.{List}
use Rattle.sil_symbols.specs.NameValues.{Meaning}
use Rattle.sil_symbols.specs.HeldNames.{AreSettling}
use Rattle.sil_symbols.proofs.settling.settle_in_order.Given as goal

abbrev pub invariant-loop-place : goal.invariant-loop-place
invariant-loop-place l = (labels : List Meaning) → AreSettling l.names l.statements labels l.initial.outcomes → AreSettling l.names l.statements labels l.outcomes
