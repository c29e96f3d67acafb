-- Loops of clauses: so many turns, and turns up to the one that is over. None stands for a turn that is undefined.
use Rattle.std.specs.Prelude.{ℕ, zero, suc, ◌+◌, Option, Some, None}
use Rattle.std.specs.declared.ops.ControlFlow.{ControlFlow}
use Rattle.std.specs.declared.ops.ControlFlow.TheVariants.{Continue, Break}
use Rattle.sil_model.specs.Access.{◌>>=◌}

-- so many turns, each from what the one before left
unfoldable pub each : {S : Type 0} → (S → Option S) → ℕ → S → Option S
each turn zero s = Some s
each turn (suc n) s = do
  t ← turn s
  each turn n t

-- on from what a turn left, or over with what it found
abbrev pub walk_on : {S R : Type 0} → (S → Option R) → ControlFlow R S → Option R
walk_on on (Continue s) = on s
walk_on on (Break r) = Some r

-- turns up to the one that is over; more than so many are undefined
unfoldable pub walk : {S R : Type 0} → (S → Option (ControlFlow R S)) → ℕ → S → Option R
walk turn zero s = None
walk turn (suc n) s = do
  t ← turn s
  walk_on (walk turn n) t

-- ---- what the turns that are begun visit, by what each does

abbrev pub visits_left : {S : Type 0} → (S → ℕ) → Option S → ℕ
visits_left on None = 0
visits_left on (Some s) = on s

unfoldable pub each_visits : {S : Type 0} → (S → Option S) → (S → ℕ) → ℕ → S → ℕ
each_visits turn price zero s = 0
each_visits turn price (suc n) s = price s + visits_left (each_visits turn price n) (turn s)

abbrev pub visits_on : {S R : Type 0} → (S → ℕ) → Option (ControlFlow R S) → ℕ
visits_on on None = 0
visits_on on (Some (Continue s)) = on s
visits_on on (Some (Break r)) = 0

unfoldable pub walk_visits : {S R : Type 0} → (S → Option (ControlFlow R S)) → (S → ℕ) → ℕ → S → ℕ
walk_visits turn price zero s = 0
walk_visits turn price (suc n) s = price s + visits_on (walk_visits turn price n) (turn s)
