-- Lists of one element, and machines that can step.
use Rattle.std.proofs.Common.{zero, suc, ◌<◌, ◌^◌, List, [], ◌∷◌, arith}
use Rattle.std.specs.Prelude.{All}
use Rattle.sil_machine.specs.Positions.{Outcome, Stands, HasEnded, CanStep, steps_of}

pub all_one : {A : Type 0} (P : A → Type 0) (x : A) → P x → All P (x ∷ [])
all_one P x p zero d below = p
all_one P x p (suc k) d below = absurd (omega (arith, below))

pub can_step : (o : Outcome) → steps_of o < 2 ^ 40 → CanStep o
can_step (Stands p) h = h
can_step (HasEnded steps end) h = tt
