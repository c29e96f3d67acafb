-- Runs of the emulator, one after another.
use Rattle.std.proofs.Common.{◌≡◌, ℕ, zero, suc, ◌+◌, ◌<◌, [], ◌++◌, Option, None, refl, sym, ap, subst, ◌∙◌, arith, append_assoc}
use Rattle.std.proofs.lemmas.List.{append-nil}
use Rattle.unit_io.specs.Tapes.{Tapes}
use Rattle.image_file.specs.Image.{Image}
use Rattle.rv_emulate.specs.declared.end.CpuEnd.{CpuEnd}
use Rattle.rv_emulate.specs.EmulatorStates.{State, Outcome, On, Ended, steps_left}
use Rattle.rv_emulate.specs.EmulatorSteps.{step}
use Rattle.rv_emulate.specs.EmulatorRuns.{run, met, met_now, listed, met_after, met_with, on_state, entry_at}
use Rattle.rv_emulate.specs.AlongRuns.{Along}

module _ (image : Image) where
  -- j instructions to t, and then k
  pub run-add : (j k : ℕ) (s t : State) → run image j s ≡ On t → run image (j + k) s ≡ run image k t
  unfolding run
  run-add zero k s t e =
      let same : s ≡ t = cc in
      let z : 0 + k ≡ k = omega arith in
      rw z (ap (λ x. run image k x) same)
  run-add (suc j) k s t e =
      let z : suc j + k ≡ suc (j + k) = omega arith in
      rw z (on (λ v f. run-add j k v t f) (step image s) e)
    where
      on : ((v : State) → run image j v ≡ On t → run image (j + k) v ≡ run image k t) → (o : Outcome) → on_state o (run image j) ≡ On t → on_state o (run image (j + k)) ≡ run image k t
      on again (On v) f = again v f
      on again (Ended x tapes) f = absurd cc

  -- a run that has ended stays so
  pub run-end : (j k : ℕ) (s : State) (c : Option CpuEnd) (tapes : Tapes) → run image j s ≡ Ended c tapes → run image (j + k) s ≡ Ended c tapes
  unfolding run
  run-end zero k s c tapes e = absurd cc
  run-end (suc j) k s c tapes e =
      let z : suc j + k ≡ suc (j + k) = omega arith in
      rw z (on (λ v f. run-end j k v c tapes f) (step image s) e)
    where
      on : ((v : State) → run image j v ≡ Ended c tapes → run image (j + k) v ≡ Ended c tapes) → (o : Outcome) → on_state o (run image j) ≡ Ended c tapes → on_state o (run image (j + k)) ≡ Ended c tapes
      on again (On v) f = again v f
      on again (Ended x t) f = f

  pub met-add : (j k : ℕ) (s t : State) → run image j s ≡ On t → met image (j + k) s ≡ met image j s ++ met image k t
  unfolding run met
  met-add zero k s t e =
      let same : s ≡ t = cc in
      let z : 0 + k ≡ k = omega arith in
      rw z (ap (λ x. met image k x) same)
  met-add (suc j) k s t e =
      let z : suc j + k ≡ suc (j + k) = omega arith in
      rw z (ap (λ xs. listed (met_now image s) ++ xs) (on (λ v f. met-add j k v t f) (step image s) e) ∙ sym (append_assoc (listed (met_now image s)) (met_after (step image s) (met image j)) (met image k t)))
    where
      on : ((v : State) → run image j v ≡ On t → met image (j + k) v ≡ met image j v ++ met image k t) → (o : Outcome) → on_state o (run image j) ≡ On t → met_after o (met image (j + k)) ≡ met_after o (met image j) ++ met image k t
      on again (On v) f = again v f
      on again (Ended x tapes) f = absurd cc

  pub met-end : (j k : ℕ) (s : State) (c : Option CpuEnd) (tapes : Tapes) → run image j s ≡ Ended c tapes → met image (j + k) s ≡ met image j s
  unfolding run met
  met-end zero k s c tapes e = absurd cc
  met-end (suc j) k s c tapes e =
      let z : suc j + k ≡ suc (j + k) = omega arith in
      rw z (ap (λ xs. listed (met_now image s) ++ xs) (on (λ v f. met-end j k v c tapes f) (step image s) e))
    where
      on : ((v : State) → run image j v ≡ Ended c tapes → met image (j + k) v ≡ met image j v) → (o : Outcome) → on_state o (run image j) ≡ Ended c tapes → met_after o (met image (j + k)) ≡ met_after o (met image j)
      on again (On v) f = again v f
      on again (Ended x t) f = refl

  -- ---- states along a run

  pub along_at : (P : State → Type 0) (n i : ℕ) (o : Outcome) (t : State) → Along image P n o → i < n → on_state o (run image i) ≡ On t → P t
  unfolding run
  along_at P zero i o t h lt e = absurd (omega arith)
  along_at P (suc n) i (Ended c tapes) t h lt e = absurd cc
  along_at P (suc n) zero (On s) t h lt e = let same : s ≡ t = cc in subst P same h.0
  along_at P (suc n) (suc i) (On s) t h lt e = along_at P n i (step image s) t h.1 (omega arith) e

  -- after one instruction, and i more
  pub later_at : (P : State → Type 0) (n i : ℕ) (s t : State) → Along image P n (step image s) → i < n → run image (suc i) s ≡ On t → P t
  unfolding run
  later_at P n i s t h lt e = along_at P n i (step image s) t h lt e

  -- nothing is met at the place of no statement
  module _ (P : State → Type 0) (apart : (s : State) → P s → entry_at image.statements s.pc ≡ None) where
    not_here : (left : ℕ) → met_with None left ≡ None
    not_here zero = refl
    not_here (suc left) = refl

    nothing_met : (s : State) → P s → listed (met_now image s) ≡ []
    nothing_met s h = ap (λ o. listed (met_with o (steps_left s))) (apart s h) ∙ ap listed (not_here (steps_left s))

    none_met : (n : ℕ) (o : Outcome) → Along image P n o → met_after o (met image n) ≡ []
    unfolding met
    none_met zero (On s) h = refl
    none_met zero (Ended c tapes) h = refl
    none_met (suc n) (Ended c tapes) h = refl
    none_met (suc n) (On s) h =
        ap (λ xs. xs ++ met_after (step image s) (met image n)) (nothing_met s h.0) ∙ none_met n (step image s) h.1

    -- the statements met on a way are those at its start
    pub met_way : (n : ℕ) (s : State) → Along image P n (step image s) → met image (suc n) s ≡ listed (met_now image s)
    unfolding met
    met_way n s h = ap (λ xs. listed (met_now image s) ++ xs) (none_met n (step image s) h) ∙ append-nil (listed (met_now image s))
