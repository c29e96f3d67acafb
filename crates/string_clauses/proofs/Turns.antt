-- A loop makes a turn and goes on; and what its turns keep, it keeps.
use Rattle.std.proofs.Common.{◌≡◌, ℕ, zero, suc, ◌+◌, ◌-◌, ◌<◌, ◌≤◌, List, [], ◌∷◌, drop, get_or, length, Option, Some, None, refl, subst, arith}
use Rattle.std.specs.declared.ops.ControlFlow.{ControlFlow}
use Rattle.std.specs.declared.ops.ControlFlow.TheVariants.{Continue, Break}
use Rattle.std.proofs.lemmas.Option.{same_Some}
use Rattle.std.specs.Prelude.{ℤ, pos}
use Rattle.sil_model.specs.Access.{◌>>=◌, set_char_at}
use Rattle.sil_model.specs.Integers.{◌⊞◌}
use Rattle.sil_model.specs.Memory.{Memory, IsMemory}
use Rattle.sil_model.proofs.Keeps.{Writes, same, writes_then}
use Rattle.sil_model.proofs.Reading.{from_read}
use Rattle.string_clauses.specs.StringClauses.{chars_written}
use Rattle.string_clauses.specs.Walks.{each, each_visits, one_more, on_turn, walk, visits_after, walk_visits}

pub each_none : {S : Type 0} (body : ℕ → S → Option S) (i n : ℕ) (s : S) → n ≡ 0 → each body i n s ≡ Some s
unfolding each
each_none body i n s e = rw e refl

pub each_more : {S : Type 0} (body : ℕ → S → Option S) (i n : ℕ) (s : S) → 0 < n → each body i n s ≡ (body i s >>= each body (i + 1) (n - 1))
unfolding each
each_more body i zero s h = absurd (omega (arith, h))
each_more body i (suc n) s h =
    let e : suc n - 1 ≡ n = omega arith in
    rw e refl

pub walk_none : {S R : Type 0} (turn : ℕ → S → Option (ControlFlow R S)) (last : S → R) (i n : ℕ) (s : S) → n ≡ 0 → walk turn last i n s ≡ Some (last s)
unfolding walk
walk_none turn last i n s e = rw e refl

pub walk_more : {S R : Type 0} (turn : ℕ → S → Option (ControlFlow R S)) (last : S → R) (i n : ℕ) (s : S) → 0 < n → walk turn last i n s ≡ (turn i s >>= (λ t. on_turn t (walk turn last (i + 1) (n - 1))))
unfolding walk
walk_more turn last i zero s h = absurd (omega (arith, h))
walk_more turn last i (suc n) s h =
    let e : suc n - 1 ≡ n = omega arith in
    rw e refl

pub ruleset turns = (each_none, each_more, walk_none, walk_more)

pub texts_none : (at : ℤ) (cs : List ℕ) (i : ℕ) (m : Memory) → length cs ≤ i → chars_written at (drop i cs) m ≡ Some m
unfolding chars_written
texts_none at [] zero m le = refl
texts_none at [] (suc i) m le = refl
texts_none at (c ∷ cs) zero m le = absurd (omega arith)
texts_none at (c ∷ cs) (suc i) m le = texts_none at cs i m (omega arith)

pub texts_more : (at : ℤ) (cs : List ℕ) (i : ℕ) (m : Memory) → i < length cs → chars_written at (drop i cs) m ≡ (set_char_at m at (get_or cs i 0) >>= (λ m'. chars_written (at ⊞ pos 1) (drop (i + 1) cs) m'))
unfolding chars_written
texts_more at [] i m lt = absurd (omega arith)
texts_more at (c ∷ cs) zero m lt = refl
texts_more at (c ∷ cs) (suc i) m lt = let e : suc i + 1 ≡ suc (i + 1) = omega arith in rw e (texts_more at cs i m (omega arith))

pub ruleset texts = (texts_none, texts_more)

-- ---- what turns keep

pub writes_same : (m : Memory) → IsMemory m → Writes m (Some m)
unfolding Writes
writes_same m h = same m h

pub each_writes : (body : ℕ → Memory → Option Memory) → ((i : ℕ) (m : Memory) → IsMemory m → Writes m (body i m)) → (n i : ℕ) (m : Memory) → IsMemory m → Writes m (each body i n m)
unfolding each
each_writes body one zero i m h = writes_same m h
each_writes body one (suc n) i m h = writes_then m (body i m) (λ m'. each body (i + 1) n m') (one i m h) (λ m' f. each_writes body one n (i + 1) m' f.is_memory)

pub each_gives : {S : Type 0} (body : ℕ → S → Option S) (P : S → Type 0) → ((i : ℕ) (s t : S) → P s → body i s ≡ Some t → P t) → (n i : ℕ) (s r : S) → P s → each body i n s ≡ Some r → P r
unfolding each
each_gives body P one zero i s r p is = subst P (same_Some s r is) p
each_gives body P one (suc n) i s r p is =
    let t = from_read (body i s) _ r is in
    each_gives body P one n (i + 1) t.0 r (one i s t.0 p t.1) t.2

-- a turn keeps the first where it goes on, and has an answer of which the second holds
abbrev pub Good : {S R : Type 0} → (S → Type 0) → (R → Type 0) → ControlFlow R S → Type 0
Good Q P (Break answer) = P answer
Good Q P (Continue s) = Q s

module _ {S R : Type 0} (turn : ℕ → S → Option (ControlFlow R S)) (last : S → R) (Q : S → Type 0) (P : R → Type 0) (ends : (s : S) → Q s → P (last s)) (one : (i : ℕ) (s : S) (t : ControlFlow R S) → Q s → turn i s ≡ Some t → Good Q P t) where
  on_gives : (i n : ℕ) (r : R) (t : ControlFlow R S) → ((s : S) → Q s → walk turn last (i + 1) n s ≡ Some r → P r) → Good Q P t → on_turn t (walk turn last (i + 1) n) ≡ Some r → P r
  on_gives i n r (Break a) more good is = subst P (same_Some a r is) good
  on_gives i n r (Continue s) more good is = more s good is

  pub walk_gives : (n i : ℕ) (s : S) (r : R) → Q s → walk turn last i n s ≡ Some r → P r
  unfolding walk
  walk_gives zero i s r q is = subst P (same_Some (last s) r is) (ends s q)
  walk_gives (suc n) i s r q is =
      let t = from_read {A = ControlFlow R S} (turn i s) _ r is in
      on_gives i n r t.0 (λ s' q' e. walk_gives n (i + 1) s' r q' e) (one i s t.0 q t.1) t.2

-- ---- how many turns there are

-- where each turn that goes on makes a measure less, there is no more than one turn beyond it
module _ {S R : Type 0} (turn : ℕ → S → Option (ControlFlow R S)) (Q : ℕ → ℕ → S → Type 0) (measure : ℕ → ℕ → S → ℕ)
    (one : (n i : ℕ) (s t : S) → Q (suc n) i s → turn i s ≡ Some (Continue t) → Q n (i + 1) t × (measure n (i + 1) t < measure (suc n) i s)) where
  few_after : (n i : ℕ) (s : S) (o : Option (ControlFlow R S)) → turn i s ≡ o → Q (suc n) i s → ((t : S) → Q n (i + 1) t → walk_visits turn (i + 1) n t ≤ measure n (i + 1) t + 1) → visits_after o (walk_visits turn (i + 1) n) ≤ measure (suc n) i s + 1
  few_after n i s None e q more = omega arith
  few_after n i s (Some (Break a)) e q more = omega arith
  few_after n i s (Some (Continue t)) e q more =
      let less = one n i s t q e in
      let rest = more t less.0 in
      omega (arith, less.1, rest)

  pub few_turns : (n i : ℕ) (s : S) → Q n i s → walk_visits turn i n s ≤ measure n i s + 1
  unfolding walk_visits
  few_turns zero i s q = omega arith
  few_turns (suc n) i s q = few_after n i s (turn i s) refl q (λ t q'. few_turns n (i + 1) t q')

module _ {S : Type 0} (body : ℕ → S → Option S) (Q : ℕ → ℕ → S → Type 0) (measure : ℕ → ℕ) (one : (n i : ℕ) (s t : S) → Q (suc n) i s → body i s ≡ Some t → Q n (i + 1) t × (measure (i + 1) < measure i)) where
  more_after : (n i : ℕ) (s : S) (o : Option S) → body i s ≡ o → Q (suc n) i s → ((t : S) → Q n (i + 1) t → each_visits body (i + 1) n t ≤ measure (i + 1) + 1) → one_more o (each_visits body (i + 1) n) ≤ measure i + 1
  more_after n i s None e q more = omega arith
  more_after n i s (Some t) e q more =
      let less = one n i s t q e in
      let rest = more t less.0 in
      omega (arith, less.1, rest)

  pub few_more : (n i : ℕ) (s : S) → Q n i s → each_visits body i n s ≤ measure i + 1
  unfolding each_visits
  few_more zero i s q = omega arith
  few_more (suc n) i s q = more_after n i s (body i s) refl q (λ t q'. few_more n (i + 1) t q')
