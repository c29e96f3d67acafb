use Rattle.std.proofs.Common.{◌≡◌, ℕ, ◌<◌, ◌≤◌, List, true, false}
use Rattle.sil_symbols.specs.NameValues.{Meaning}
use Rattle.sil_symbols.specs.HeldNames.{settled_count, AreSettling, IsQuiet}
use Rattle.sil_symbols.proofs.settling.settle_each.Given as goal

abbrev pub invariant-loop-place : goal.invariant-loop-place
invariant-loop-place l = record {
  sound : (labels : List Meaning) → AreSettling l.names l.statements labels l.initial.outcomes → AreSettling l.names l.statements labels l.outcomes;
  grows : settled_count l.initial.outcomes ≤ settled_count l.outcomes;
  more : l.settled ≡ true → settled_count l.initial.outcomes < settled_count l.outcomes;
  quiet : l.settled ≡ false → (labels : List Meaning) → AreSettling l.names l.statements labels l.initial.outcomes → (k : ℕ) → k < l.place → IsQuiet l.names labels l.outcomes k;
}
