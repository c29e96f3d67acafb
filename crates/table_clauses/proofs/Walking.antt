-- What holds of the answer of a walk, by the turns that are left.
use Rattle.std.proofs.Common.{◌≡◌, ℕ, zero, suc, ◌+◌, Option, Some, subst}
use Rattle.std.proofs.lemmas.Option.{same_Some}
use Rattle.std.specs.declared.ops.ControlFlow.{ControlFlow}
use Rattle.std.specs.declared.ops.ControlFlow.TheVariants.{Continue, Break}
use Rattle.sil_model.proofs.Reading.{from_read}
use Rattle.string_clauses.specs.Walks.{on_turn, walk}
use Rattle.string_clauses.proofs.Turns.{Good}

module _ {S R : Type 0} (turn : ℕ → S → Option (ControlFlow R S)) (last : S → R) (Q : ℕ → ℕ → S → Type 0) (P : R → Type 0) (ends : (i : ℕ) (s : S) → Q 0 i s → P (last s)) (one : (n i : ℕ) (s : S) (t : ControlFlow R S) → Q (suc n) i s → turn i s ≡ Some t → Good (Q n (i + 1)) P t) where
  on_comes : (i n : ℕ) (r : R) (t : ControlFlow R S) → ((s : S) → Q n (i + 1) s → walk turn last (i + 1) n s ≡ Some r → P r) → Good (Q n (i + 1)) P t → on_turn t (walk turn last (i + 1) n) ≡ Some r → P r
  on_comes i n r (Break a) more good is = subst P (same_Some a r is) good
  on_comes i n r (Continue s) more good is = more s good is

  pub walk_comes : (n i : ℕ) (s : S) (r : R) → Q n i s → walk turn last i n s ≡ Some r → P r
  unfolding walk
  walk_comes zero i s r q is = subst P (same_Some (last s) r is) (ends i s q)
  walk_comes (suc n) i s r q is =
      let t = from_read {A = ControlFlow R S} (turn i s) _ r is in
      on_comes i n r t.0 (λ s' q' e. walk_comes n (i + 1) s' r q' e) (one n i s t.0 q t.1) t.2
