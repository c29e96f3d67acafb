-- The outcomes of labels while their EQUs are settled.
use Rattle.std.proofs.Common.{◌≡◌, ℕ, zero, suc, ◌<◌, ◌≤◌, ◌≢◌, Bool, true, false, cond, leb, eqb, List, [], ◌∷◌, length, get_or, set, map, Option, Some, None, refl, ap, sym, subst, ◌∙◌, ◌⊎◌, inl, inr, arith, true≢false, if◌then◌else◌, length-set, get_or-set_other, get_or-set_same}
use Rattle.std.proofs.lemmas.List.{length-map, get_or_past}
use Rattle.std.proofs.lemmas.List.Sums.{sum_by-set, count_by-le-length}
use Rattle.std.proofs.lemmas.Bool.Decides.{leb_tells, eqb_tells}
use Rattle.sil_operands.specs.declared.expr.Term.{Term}
use Rattle.sil_symbols.specs.declared.names.Names.{Names}
use Rattle.sil_symbols.specs.declared.origin.Origin.{Origin}
use Rattle.sil_symbols.specs.declared.origin.Origin.TheVariants.{Parameter, Label}
use Rattle.sil_symbols.specs.declared.outcome.Outcome.{Outcome}
use Rattle.sil_symbols.specs.declared.outcome.Outcome.TheVariants.{Value, NoValue, Circular}
use Rattle.sil_symbols.specs.declared.stmt.Stmt.{Stmt}
use Rattle.sil_symbols.specs.StatementParts.{part_of, is_equation}
use Rattle.sil_symbols.specs.Expressions.{outcome_of, some_name, is_circular, equated}
use Rattle.sil_symbols.specs.NameValues.{Meaning, Fixed, Equals, first_expression, equation_by, meaning_at, meanings, meaning_of, first_outcome, next_outcome, outcome_within}
use Rattle.sil_symbols.specs.HeldNames.{outcome_by, origin_in, names_in, means_in, is_settled, settled_count, equation_of, equation_at, IsFixedBy, AreSettling, QuietBy, IsQuiet}
use Rattle.sil_symbols.proofs.Agreement.{equated_agree, outcome_of-known, some_name_stays}

not_circular : {P : Type 0} → is_circular Circular ≡ false → P
not_circular h = absurd (true≢false h)

-- ---- more EQUs followed

next_stable : (f g : List ℕ → Outcome) → ((name : List ℕ) → is_circular (f name) ≡ false → g name ≡ f name) → (m : Meaning) → is_circular (next_outcome f m) ≡ false → next_outcome g m ≡ next_outcome f m
next_stable f g agree (Fixed o) h = refl
next_stable f g agree (Equals ts) h = by (some_name (λ name. is_circular (f name)) ts) refl h
  where
    by : (b : Bool) → some_name (λ name. is_circular (f name)) ts ≡ b → is_circular (if b then Circular else outcome_of f ts) ≡ false → equated g ts ≡ (if b then Circular else outcome_of f ts)
    by true e h = not_circular h
    by false e h = equated_agree f g agree ts e

first_next : (f : List ℕ → Outcome) (m : Meaning) → is_circular (first_outcome m) ≡ false → next_outcome f m ≡ first_outcome m
first_next f (Fixed o) h = refl
first_next f (Equals ts) h = not_circular h

module _ (means : List ℕ → Meaning) where
  stable_step : (n : ℕ) (name : List ℕ) → is_circular (outcome_within n means name) ≡ false → outcome_within (suc n) means name ≡ outcome_within n means name
  unfolding outcome_within
  stable_step zero name h = first_next (outcome_within zero means) (means name) h
  stable_step (suc n) name h = next_stable (outcome_within n means) (outcome_within (suc n) means) (stable_step n) (means name) h

  stable : (m n : ℕ) (name : List ℕ) → n ≤ m → is_circular (outcome_within n means name) ≡ false → outcome_within m means name ≡ outcome_within n means name
  stable zero n name h k = let e : zero ≡ n = omega arith in ap (λ i. outcome_within i means name) e
  stable (suc m) n name h k = by (leb_tells n m) (stable m n name)
    where
      by : ((leb n m ≡ true) × (n ≤ m)) ⊎ ((leb n m ≡ false) × (m < n)) → (n ≤ m → is_circular (outcome_within n means name) ≡ false → outcome_within m means name ≡ outcome_within n means name)
          → outcome_within (suc m) means name ≡ outcome_within n means name
      by (inl p) rest = let e = rest p.1 k in stable_step m name (ap is_circular e ∙ k) ∙ e
      by (inr p) rest = let e : suc m ≡ n = omega arith in ap (λ i. outcome_within i means name) e

  known_within : (n : ℕ) (name : List ℕ) → is_circular (first_outcome (means name)) ≡ false → outcome_within n means name ≡ first_outcome (means name)
  unfolding outcome_within
  known_within zero name h = refl
  known_within (suc n) name h = first_next (outcome_within n means) (means name) h

-- ---- the first outcomes

get_or-map : {A B : Type 0} (f : A → B) (xs : List A) (i : ℕ) (d : A) → get_or (map f xs) i (f d) ≡ f (get_or xs i d)
get_or-map f [] i d = refl
get_or-map f (x ∷ xs) zero d = refl
get_or-map f (x ∷ xs) (suc i) d = get_or-map f xs i d

length-meanings : (addresses : List Outcome) (ss : List Stmt) → length addresses ≡ length ss → length (meanings addresses ss) ≡ length ss
length-meanings [] [] h = refl
length-meanings [] (s ∷ ss) h = h
length-meanings (a ∷ rest) [] h = refl
length-meanings (a ∷ rest) (s ∷ ss) h = ap suc (length-meanings rest ss (omega arith))

get_or-meanings : (addresses : List Outcome) (ss : List Stmt) (i : ℕ) (s : Stmt) → length addresses ≡ length ss → i < length ss
    → get_or (meanings addresses ss) i (Fixed NoValue) ≡ meaning_at (get_or addresses i NoValue) (get_or ss i s)
get_or-meanings [] [] i s h k = absurd (omega arith)
get_or-meanings [] (x ∷ ss) i s h k = absurd (omega arith)
get_or-meanings (a ∷ rest) [] i s h k = absurd (omega arith)
get_or-meanings (a ∷ rest) (x ∷ ss) zero s h k = refl
get_or-meanings (a ∷ rest) (x ∷ ss) (suc i) s h k = get_or-meanings rest ss i s (omega arith) (omega arith)

equation_at-meaning_at : (address : Outcome) (s : Stmt) → equation_at (meaning_at address s) ≡ equation_of s
equation_at-meaning_at address s = by (is_equation (part_of s.name)) (first_expression s.operands)
  where
    by : (b : Bool) (o : Option (List Term)) → equation_at (if b then equation_by o else Fixed address) ≡ (if b then o else None)
    by true None = refl
    by true (Some ts) = refl
    by false o = refl

first_is_fixed : (m : Meaning) → IsFixedBy (first_outcome m) m
first_is_fixed (Fixed o) = refl
first_is_fixed (Equals ts) = tt

outcome_by-first : (labels : List Meaning) (o : Option Origin) → outcome_by (map first_outcome labels) o ≡ first_outcome (meaning_of labels o)
outcome_by-first labels None = refl
outcome_by-first labels (Some (Parameter v)) = refl
outcome_by-first labels (Some (Label i)) = get_or-map first_outcome labels i (Fixed NoValue)

pub first_settling : (names : Names) (ss : List Stmt) (addresses : List Outcome) → length addresses ≡ length ss → AreSettling names ss (meanings addresses ss) (map first_outcome (meanings addresses ss))
first_settling names ss addresses h = record {
  count = length-map (meanings addresses ss) first_outcome ∙ length-meanings addresses ss h;
  equations = λ i s k is.
      ap equation_at (get_or-meanings addresses ss i s h k ∙ ap (meaning_at (get_or addresses i NoValue)) (sym is)) ∙ equation_at-meaning_at (get_or addresses i NoValue) s;
  known = λ i. subst (λ o. IsFixedBy o (get_or (meanings addresses ss) i (Fixed NoValue))) (sym (get_or-map first_outcome (meanings addresses ss) i (Fixed NoValue)))
      (first_is_fixed (get_or (meanings addresses ss) i (Fixed NoValue)));
  sound = λ name k.
      let e = outcome_by-first (meanings addresses ss) (origin_in names name) in
      known_within (means_in names (meanings addresses ss)) _ name (ap is_circular (sym e) ∙ k) ∙ sym e;
}

-- ---- one EQU more

equals_at : (m : Meaning) (ts : List Term) → equation_at m ≡ Some ts → m ≡ Equals ts
equals_at (Fixed o) ts h = cc
equals_at (Equals us) ts h = cc

settled_is : (o : Outcome) → is_circular o ≡ false → is_settled o ≡ true
settled_is (Value z) h = refl
settled_is NoValue h = refl
settled_is Circular h = not_circular h

unsettled_is : (o : Outcome) → is_circular o ≡ true → is_settled o ≡ false
unsettled_is (Value z) h = absurd (true≢false (sym h))
unsettled_is NoValue h = absurd (true≢false (sym h))
unsettled_is Circular h = refl

pub settled_count-set : (outcomes : List Outcome) (i : ℕ) (o : Outcome) → i < length outcomes → is_circular (get_or outcomes i NoValue) ≡ true → is_circular o ≡ false
    → settled_count (set outcomes i o) ≡ suc (settled_count outcomes)
settled_count-set outcomes i o within was now =
    let e = sum_by-set (λ x. cond (is_settled x) 1 0) outcomes i o NoValue within in
    let before : ◌≡◌ {A = ℕ} (cond (is_settled (get_or outcomes i NoValue)) 1 0) 0 = ap (λ b. cond b 1 0) (unsettled_is (get_or outcomes i NoValue) was) in
    let after : ◌≡◌ {A = ℕ} (cond (is_settled o) 1 0) 1 = ap (λ b. cond b 1 0) (settled_is o now) in
    omega (arith, e, before, after)

module _ (names : Names) (ss : List Stmt) (labels : List Meaning) (outcomes : List Outcome) (settling : AreSettling names ss labels outcomes)
    (i : ℕ) (s : Stmt) (ts : List Term) (within : i < length ss) (is : s ≡ get_or ss i s) (equation : equation_of s ≡ Some ts) where
  pub label_equals : get_or labels i (Fixed NoValue) ≡ Equals ts
  label_equals = equals_at (get_or labels i (Fixed NoValue)) ts (settling.equations i s within is ∙ equation)

  module _ (was : is_circular (get_or outcomes i NoValue) ≡ true) (calm : some_name (λ name. is_circular (names_in names outcomes name)) ts ≡ false) where
    next : Outcome
    next = outcome_of (names_in names outcomes) ts

    within_outcomes : i < length outcomes
    within_outcomes = omega (arith, settling.count)

    next_known : is_circular next ≡ false
    unfolding next
    next_known = outcome_of-known (names_in names outcomes) ts calm

    count_more : settled_count (set outcomes i next) ≡ suc (settled_count outcomes)
    count_more = settled_count-set outcomes i next within_outcomes was next_known

    kept : (name : List ℕ) → names_in names (set outcomes i next) name ≡ names_in names outcomes name → is_circular (names_in names (set outcomes i next) name) ≡ false
        → outcome_within (settled_count (set outcomes i next)) (means_in names labels) name ≡ names_in names (set outcomes i next) name
    kept name same known =
        let old = settling.sound name (ap is_circular (sym same) ∙ known) in
        ap (λ n. outcome_within n (means_in names labels) name) count_more
        ∙ stable_step (means_in names labels) (settled_count outcomes) name (ap is_circular old ∙ ap is_circular (sym same) ∙ known) ∙ old ∙ sym same

    settled_now : (name : List ℕ) → means_in names labels name ≡ Equals ts → outcome_within (settled_count (set outcomes i next)) (means_in names labels) name ≡ next
    unfolding outcome_within next
    settled_now name means =
        ap (λ n. outcome_within n (means_in names labels) name) count_more
        ∙ ap (next_outcome (outcome_within (settled_count outcomes) (means_in names labels))) means
        ∙ equated_agree (names_in names outcomes) (outcome_within (settled_count outcomes) (means_in names labels)) settling.sound ts calm

    sound_now : (name : List ℕ) (o : Option Origin) → origin_in names name ≡ o → is_circular (outcome_by (set outcomes i next) o) ≡ false
        → outcome_within (settled_count (set outcomes i next)) (means_in names labels) name ≡ outcome_by (set outcomes i next) o
    sound_now name None e known =
        kept name (ap (outcome_by (set outcomes i next)) e ∙ sym (ap (outcome_by outcomes) e)) (ap (λ o. is_circular (outcome_by (set outcomes i next) o)) e ∙ known) ∙ ap (outcome_by (set outcomes i next)) e
    sound_now name (Some (Parameter v)) e known =
        kept name (ap (outcome_by (set outcomes i next)) e ∙ sym (ap (outcome_by outcomes) e)) (ap (λ o. is_circular (outcome_by (set outcomes i next) o)) e ∙ known) ∙ ap (outcome_by (set outcomes i next)) e
    sound_now name (Some (Label j)) e known = by (eqb_tells j i)
      where
        by : ((eqb j i ≡ true) × (j ≡ i)) ⊎ ((eqb j i ≡ false) × (j ≢ i))
            → outcome_within (settled_count (set outcomes i next)) (means_in names labels) name ≡ get_or (set outcomes i next) j NoValue
        by (inl p) =
            settled_now name (ap (meaning_of labels) e ∙ ap (λ k. get_or labels k (Fixed NoValue)) p.1 ∙ label_equals)
            ∙ sym (ap (λ k. get_or (set outcomes i next) k NoValue) p.1 ∙ get_or-set_same outcomes i next NoValue within_outcomes)
        by (inr p) =
            let apart : get_or (set outcomes i next) j NoValue ≡ get_or outcomes j NoValue = get_or-set_other outcomes i j next NoValue p.1 in
            kept name (ap (outcome_by (set outcomes i next)) e ∙ apart ∙ sym (ap (outcome_by outcomes) e)) (ap (λ o. is_circular (outcome_by (set outcomes i next) o)) e ∙ known)
            ∙ ap (outcome_by (set outcomes i next)) e

    known_now : (j : ℕ) → IsFixedBy (get_or (set outcomes i next) j NoValue) (get_or labels j (Fixed NoValue))
    known_now j = by (eqb_tells j i)
      where
        by : ((eqb j i ≡ true) × (j ≡ i)) ⊎ ((eqb j i ≡ false) × (j ≢ i)) → IsFixedBy (get_or (set outcomes i next) j NoValue) (get_or labels j (Fixed NoValue))
        by (inl p) = subst (IsFixedBy (get_or (set outcomes i next) j NoValue)) (sym (ap (λ k. get_or labels k (Fixed NoValue)) p.1 ∙ label_equals)) tt
        by (inr p) = subst (λ o. IsFixedBy o (get_or labels j (Fixed NoValue))) (sym (get_or-set_other outcomes i j next NoValue p.1)) (settling.known j)

    pub settling_now : AreSettling names ss labels (set outcomes i (outcome_of (names_in names outcomes) ts))
    unfolding next
    settling_now = record {
      count = length-set outcomes i (outcome_of (names_in names outcomes) ts) ∙ settling.count;
      equations = settling.equations;
      known = known_now;
      sound = λ name known. sound_now name (origin_in names name) refl known;
    }

  -- an EQU that names a circular one is quiet
  pub quiet_circle : some_name (λ name. is_circular (names_in names outcomes name)) ts ≡ true → IsQuiet names labels outcomes i
  quiet_circle h = subst (QuietBy (names_in names outcomes) (get_or outcomes i NoValue)) (sym label_equals) (by (get_or outcomes i NoValue))
    where
      by : (o : Outcome) → QuietBy (names_in names outcomes) o (Equals ts)
      by (Value z) = tt
      by NoValue = tt
      by Circular = h

-- ---- nothing is left to settle

module _ (names : Names) (ss : List Stmt) (labels : List Meaning) (outcomes : List Outcome) (settling : AreSettling names ss labels outcomes)
    (quiet : (i : ℕ) → i < length ss → IsQuiet names labels outcomes i) where
  circle_stays : (k : ℕ) → ((name : List ℕ) → is_circular (names_in names outcomes name) ≡ true → is_circular (outcome_within k (means_in names labels) name) ≡ true)
      → (o : Outcome) (m : Meaning) → is_circular o ≡ true → QuietBy (names_in names outcomes) o m → IsFixedBy o m → is_circular (next_outcome (outcome_within k (means_in names labels)) m) ≡ true
  circle_stays k rest (Value z) m h q f = absurd (true≢false (sym h))
  circle_stays k rest NoValue m h q f = absurd (true≢false (sym h))
  circle_stays k rest Circular (Fixed o) h q f = ap is_circular (sym f)
  circle_stays k rest Circular (Equals ts) h q f =
      ap (λ b. is_circular (if b then Circular else outcome_of (outcome_within k (means_in names labels)) ts)) (some_name_stays (names_in names outcomes) (outcome_within k (means_in names labels)) rest ts q)

  circle_first : (o : Outcome) (m : Meaning) → is_circular o ≡ true → IsFixedBy o m → is_circular (first_outcome m) ≡ true
  circle_first o (Fixed p) h f = ap is_circular (sym f) ∙ h
  circle_first o (Equals ts) h f = refl

  -- a label that is still circular has a place
  circle_place : (i : ℕ) → is_circular (get_or outcomes i NoValue) ≡ true → i < length ss
  circle_place i h = by (leb_tells (suc i) (length ss))
    where
      by : ((leb (suc i) (length ss) ≡ true) × (suc i ≤ length ss)) ⊎ ((leb (suc i) (length ss) ≡ false) × (length ss < suc i)) → i < length ss
      by (inl p) = omega arith
      by (inr p) =
          let past : get_or outcomes i NoValue ≡ NoValue = get_or_past outcomes i NoValue (omega (arith, settling.count)) in
          absurd (true≢false (sym h ∙ ap is_circular past))

  stuck : (k : ℕ) (name : List ℕ) → is_circular (names_in names outcomes name) ≡ true → is_circular (outcome_within k (means_in names labels) name) ≡ true
  unfolding outcome_within
  stuck zero name h = by (origin_in names name) h
    where
      by : (o : Option Origin) → is_circular (outcome_by outcomes o) ≡ true → is_circular (first_outcome (meaning_of labels o)) ≡ true
      by None h = h
      by (Some (Parameter v)) h = h
      by (Some (Label i)) h = circle_first (get_or outcomes i NoValue) (get_or labels i (Fixed NoValue)) h (settling.known i)
  stuck (suc k) name h = by (stuck k) (origin_in names name) h
    where
      by : ((name : List ℕ) → is_circular (names_in names outcomes name) ≡ true → is_circular (outcome_within k (means_in names labels) name) ≡ true)
          → (o : Option Origin) → is_circular (outcome_by outcomes o) ≡ true → is_circular (next_outcome (outcome_within k (means_in names labels)) (meaning_of labels o)) ≡ true
      by rest None h = h
      by rest (Some (Parameter v)) h = h
      by rest (Some (Label i)) h =
          circle_stays k rest (get_or outcomes i NoValue) (get_or labels i (Fixed NoValue)) h (quiet i (circle_place i h)) (settling.known i)

  circular_is : (o : Outcome) → is_circular o ≡ true → o ≡ Circular
  circular_is (Value z) h = absurd (true≢false (sym h))
  circular_is NoValue h = absurd (true≢false (sym h))
  circular_is Circular h = refl

  pub settled_all : (name : List ℕ) → names_in names outcomes name ≡ outcome_within (length ss) (means_in names labels) name
  settled_all name = by (is_circular (names_in names outcomes name)) refl
    where
      by : (b : Bool) → is_circular (names_in names outcomes name) ≡ b → names_in names outcomes name ≡ outcome_within (length ss) (means_in names labels) name
      by true h = circular_is _ h ∙ sym (circular_is _ (stuck (length ss) name h))
      by false h =
          let e = settling.sound name h in
          sym (stable (means_in names labels) (length ss) (settled_count outcomes) name (omega (arith, count_by-le-length is_settled outcomes, settling.count)) (ap is_circular e ∙ h) ∙ e)
