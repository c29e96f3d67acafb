use Rattle.std.proofs.Common.{◌≡◌, ℕ, ◌≤◌, ◌∷◌, length}
use Rattle.sil_format.specs.Records.{passes, records_of}
use Rattle.sil_format.specs.Records.Step.{End}
use Rattle.sil_format.specs.Layout.{outcome}
use Rattle.sil_format.proofs.laying.put_all.Given as goal

abbrev pub invariant-loop-left : goal.invariant-loop-left
invariant-loop-left l = (n : ℕ) × (length l.left ≤ n) × (records_of l.items l.values ≡ outcome l.again l.sheet (End ∷ passes n l.items) l.left)

abbrev pub decreases-loop-left : goal.decreases-loop-left
decreases-loop-left l = length l.left
