-- Laws of loops: what holds through all turns holds at the end, and what they visit.
use Rattle.std.proofs.Common.{◌≡◌, ◌∙◌, ℕ, zero, suc, ◌+◌, ◌-◌, ◌*◌, ◌≤◌, ◌<◌, Option, Some, None, refl, ap, subst, arith}
use Rattle.std.proofs.lemmas.Option.{same_Some}
use Rattle.std.specs.declared.ops.ControlFlow.{ControlFlow}
use Rattle.std.specs.declared.ops.ControlFlow.TheVariants.{Continue, Break}
use Rattle.sil_model.specs.Access.{◌>>=◌}
use Rattle.tree_clauses.specs.Loops.{each, each_visits, visits_left, visits_on, walk, walk_on, walk_visits}

module _ {S R : Type 0} (turn : S → Option (ControlFlow R S)) where
  module _ (P : S → Type 0) (Q : R → Type 0) (on : (s t : S) → P s → turn s ≡ Some (Continue t) → P t) (over : (s : S) (r : R) → P s → turn s ≡ Some (Break r) → Q r) where
    after : (n : ℕ) (s : S) (r : R) → P s → ((t : S) → P t → walk turn n t ≡ Some r → Q r) → (o : Option (ControlFlow R S)) → turn s ≡ o → (o >>= (λ t. walk_on (walk turn n) t)) ≡ Some r → Q r
    after n s r p again None e is = cc
    after n s r p again (Some (Continue t)) e is = again t (on s t p e) is
    after n s r p again (Some (Break x)) e is = subst Q (same_Some x r is) (over s x p e)

    -- what holds of the start and through each turn holds where the walk is over
    pub walk_ends : (n : ℕ) (s : S) (r : R) → P s → walk turn n s ≡ Some r → Q r
    unfolding walk
    walk_ends zero s r p is = cc
    walk_ends (suc n) s r p is = after n s r p (λ t q e. walk_ends n t r q e) (turn s) refl is

  module _ (price : S → ℕ) (most : ℕ) (few : (s : S) → price s ≤ most) where
    on_few : (n : ℕ) → ((t : S) → walk_visits turn price n t ≤ n * most) → (o : Option (ControlFlow R S)) → visits_on (walk_visits turn price n) o ≤ n * most
    on_few n again None = omega arith
    on_few n again (Some (Continue t)) = again t
    on_few n again (Some (Break r)) = omega arith

    -- the visits are few where each turn's are
    pub walk_few : (n : ℕ) (s : S) → walk_visits turn price n s ≤ n * most
    unfolding walk_visits
    walk_few zero s = omega arith
    walk_few (suc n) s =
        let one : price s ≤ most = few s in
        let rest : visits_on (walk_visits turn price n) (turn s) ≤ n * most = on_few n (walk_few n) (turn s) in
        let all : suc n * most ≡ most + n * most = grind arith in
        omega (arith, one, rest, all)

module _ {S : Type 0} (turn : S → Option S) (P : S → Type 0) (on : (s t : S) → P s → turn s ≡ Some t → P t) where
  each_after : (n : ℕ) (s r : S) → P s → ((t : S) → P t → each turn n t ≡ Some r → P r) → (o : Option S) → turn s ≡ o → (o >>= (λ t. each turn n t)) ≡ Some r → P r
  each_after n s r p again None e is = cc
  each_after n s r p again (Some t) e is = again t (on s t p e) is

  pub each_ends : (n : ℕ) (s r : S) → P s → each turn n s ≡ Some r → P r
  unfolding each
  each_ends zero s r p is = subst P (same_Some s r is) p
  each_ends (suc n) s r p is = each_after n s r p (λ t q e. each_ends n t r q e) (turn s) refl is

  module _ (price : S → ℕ) (most : ℕ) (few : (s : S) → P s → price s ≤ most) where
    left_few : (n : ℕ) (s : S) → P s → ((t : S) → P t → each_visits turn price n t ≤ n * most) → (o : Option S) → turn s ≡ o → visits_left (each_visits turn price n) o ≤ n * most
    left_few n s p again None e = omega arith
    left_few n s p again (Some t) e = again t (on s t p e)

    pub each_few : (n : ℕ) (s : S) → P s → each_visits turn price n s ≤ n * most
    unfolding each_visits
    each_few zero s p = omega arith
    each_few (suc n) s p =
        let one : price s ≤ most = few s p in
        let rest : visits_left (each_visits turn price n) (turn s) ≤ n * most = left_few n s p (each_few n) (turn s) refl in
        let all : suc n * most ≡ most + n * most = grind arith in
        omega (arith, one, rest, all)

-- ---- a loop whose turns are counted: what is left does what all do

-- what is left of the walk after i turns does what the whole walk does
abbrev pub WalkLeft : {S R : Type 0} → (S → Option (ControlFlow R S)) → ℕ → S → ℕ → S → Type 0
WalkLeft turn n first i s = walk turn n first ≡ walk turn (n - i) s

module _ {S R : Type 0} (turn : S → Option (ControlFlow R S)) where
  unfold_walk : (n : ℕ) (s : S) → 0 < n → walk turn n s ≡ (turn s >>= (λ t. walk_on (walk turn (n - 1)) t))
  unfolding walk
  unfold_walk zero s lt = absurd (omega (arith, lt))
  unfold_walk (suc n) s lt =
      let e : suc n - 1 ≡ n = omega arith in
      rw e refl

  here : (n i : ℕ) (first s : S) → i < n → WalkLeft turn n first i s → (o : Option (ControlFlow R S)) → turn s ≡ o → walk turn n first ≡ (o >>= (λ t. walk_on (walk turn (n - (i + 1))) t))
  here n i first s lt left o is =
      let e : n - i - 1 ≡ n - (i + 1) = omega arith in
      left ∙ unfold_walk (n - i) s (omega (arith, lt)) ∙ ap (λ k. turn s >>= (λ t. walk_on (walk turn k) t)) e ∙ ap (λ o. o >>= (λ t. walk_on (walk turn (n - (i + 1))) t)) is

  pub walk_starts : (n : ℕ) (s : S) → WalkLeft turn n s 0 s
  walk_starts n s = let e : n ≡ n - 0 = omega arith in ap (λ k. walk turn k s) e

  pub walk_more : (n i : ℕ) (first s t : S) → i < n → WalkLeft turn n first i s → turn s ≡ Some (Continue t) → WalkLeft turn n first (i + 1) t
  walk_more n i first s t lt left is = here n i first s lt left (Some (Continue t)) is

  pub walk_found : (n i : ℕ) (first s : S) (r : R) → i < n → WalkLeft turn n first i s → turn s ≡ Some (Break r) → walk turn n first ≡ Some r
  walk_found n i first s r lt left is = here n i first s lt left (Some (Break r)) is

  pub walk_stops : (n i : ℕ) (first s : S) → i < n → WalkLeft turn n first i s → turn s ≡ None → walk turn n first ≡ None
  walk_stops n i first s lt left is = here n i first s lt left None is

  pub walk_past : (n i : ℕ) (first s : S) → n ≤ i → WalkLeft turn n first i s → walk turn n first ≡ None
  unfolding walk
  walk_past n i first s le left = let none : n - i ≡ 0 = omega (arith, le) in left ∙ ap (λ k. walk turn k s) none

abbrev pub EachLeft : {S : Type 0} → (S → Option S) → ℕ → S → ℕ → S → Type 0
EachLeft turn n first i s = each turn n first ≡ each turn (n - i) s

module _ {S : Type 0} (turn : S → Option S) where
  unfold_each : (n : ℕ) (s : S) → 0 < n → each turn n s ≡ (turn s >>= (λ t. each turn (n - 1) t))
  unfolding each
  unfold_each zero s lt = absurd (omega (arith, lt))
  unfold_each (suc n) s lt =
      let e : suc n - 1 ≡ n = omega arith in
      rw e refl

  each_here : (n i : ℕ) (first s : S) → i < n → EachLeft turn n first i s → (o : Option S) → turn s ≡ o → each turn n first ≡ (o >>= (λ t. each turn (n - (i + 1)) t))
  each_here n i first s lt left o is =
      let e : n - i - 1 ≡ n - (i + 1) = omega arith in
      left ∙ unfold_each (n - i) s (omega (arith, lt)) ∙ ap (λ k. turn s >>= (λ t. each turn k t)) e ∙ ap (λ o. o >>= (λ t. each turn (n - (i + 1)) t)) is

  pub each_starts : (n : ℕ) (s : S) → EachLeft turn n s 0 s
  each_starts n s = let e : n ≡ n - 0 = omega arith in ap (λ k. each turn k s) e

  pub each_more : (n i : ℕ) (first s t : S) → i < n → EachLeft turn n first i s → turn s ≡ Some t → EachLeft turn n first (i + 1) t
  each_more n i first s t lt left is = each_here n i first s lt left (Some t) is

  pub each_stops : (n i : ℕ) (first s : S) → i < n → EachLeft turn n first i s → turn s ≡ None → each turn n first ≡ None
  each_stops n i first s lt left is = each_here n i first s lt left None is

  pub each_past : (n i : ℕ) (first s : S) → n ≤ i → EachLeft turn n first i s → each turn n first ≡ Some s
  unfolding each
  each_past n i first s le left = let none : n - i ≡ 0 = omega (arith, le) in left ∙ ap (λ k. each turn k s) none
