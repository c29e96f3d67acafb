-- Loops of clauses: a fixed number of turns, and turns until there is an answer.
use Rattle.std.specs.Prelude.{ℕ, zero, suc, ◌+◌, Option, Some, None}
use Rattle.std.specs.declared.ops.ControlFlow.{ControlFlow}
use Rattle.std.specs.declared.ops.ControlFlow.TheVariants.{Continue, Break}
use Rattle.sil_model.specs.Access.{◌>>=◌}

-- the body at i, at i + 1 and so on, n times
unfoldable pub each : {S : Type 0} → (ℕ → S → Option S) → ℕ → ℕ → S → Option S
each body i zero s = Some s
each body i (suc n) s = do
  next ← body i s
  each body (i + 1) n next

-- the turns that it makes, the one that turns out undefined included
abbrev pub one_more : {S : Type 0} → Option S → (S → ℕ) → ℕ
one_more None further = 1
one_more (Some s) further = further s + 1

unfoldable pub each_visits : {S : Type 0} → (ℕ → S → Option S) → ℕ → ℕ → S → ℕ
each_visits body i zero s = 0
each_visits body i (suc n) s = one_more (body i s) (each_visits body (i + 1) n)

-- the answer, or what follows from the next state
abbrev pub on_turn : {S R : Type 0} → ControlFlow R S → (S → Option R) → Option R
on_turn (Break answer) go = Some answer
on_turn (Continue s) go = go s

-- the turns at i, at i + 1 and so on until there is an answer, n of them at most; where none has one, the last state has it
unfoldable pub walk : {S R : Type 0} → (ℕ → S → Option (ControlFlow R S)) → (S → R) → ℕ → ℕ → S → Option R
walk turn last i zero s = Some (last s)
walk turn last i (suc n) s = do
  t ← turn i s
  on_turn t (walk turn last (i + 1) n)

-- the turns that it makes
abbrev pub visits_after : {S R : Type 0} → Option (ControlFlow R S) → (S → ℕ) → ℕ
visits_after None further = 1
visits_after (Some (Break answer)) further = 1
visits_after (Some (Continue s)) further = further s + 1

unfoldable pub walk_visits : {S R : Type 0} → (ℕ → S → Option (ControlFlow R S)) → ℕ → ℕ → S → ℕ
walk_visits turn i zero s = 0
walk_visits turn i (suc n) s = visits_after (turn i s) (walk_visits turn (i + 1) n)

-- what a call leaves of a value; nothing is said where it fails
abbrev pub left_by : {A : Type 0} → Option (Unit {0}) → A → Option A
left_by None a = None
left_by (Some done) a = Some a
