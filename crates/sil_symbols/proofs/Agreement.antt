-- Outcomes of an expression by outcomes of names that agree where they aren't circular.
use Rattle.std.proofs.Common.{◌≡◌, ℕ, Bool, true, false, ◌||◌, ◌*ℤ◌, List, [], ◌∷◌, refl, ap, ◌∙◌, ℤ, pos, if◌then◌else◌, true≢false}
use Rattle.std.specs.List.{list_any}
use Rattle.sil_operands.specs.declared.expr.Factor.{Factor}
use Rattle.sil_operands.specs.declared.expr.Factor.TheVariants.{Name, Number}
use Rattle.sil_operands.specs.declared.expr.Term.{Term}
use Rattle.sil_symbols.specs.declared.outcome.Outcome.{Outcome}
use Rattle.sil_symbols.specs.declared.outcome.Outcome.TheVariants.{Value, NoValue, Circular}
use Rattle.sil_symbols.specs.Expressions.{bounded, fits_integer, joined, factor_outcome, product, term_outcome, with_sign, total, outcome_of, factor_names, some_name, is_circular, equated}

or_false : (a b : Bool) → (a || b) ≡ false → (a ≡ false) × (b ≡ false)
or_false false b h = (refl, h)
or_false true b h = absurd (true≢false h)

module _ (f g : List ℕ → Outcome) (agree : (name : List ℕ) → is_circular (f name) ≡ false → g name ≡ f name) where
  circle : (List ℕ → Outcome) → List ℕ → Bool
  circle names name = is_circular (names name)

  agree_factor : (x : Factor) → factor_names (circle f) x ≡ false → factor_outcome g x ≡ factor_outcome f x
  unfolding circle
  agree_factor (Name name) h = agree name h
  agree_factor (Number n) h = refl

  agree_product : (first : Outcome) (xs : List Factor) → list_any (factor_names (circle f)) xs ≡ false → product g first xs ≡ product f first xs
  unfolding circle
  agree_product first [] h = refl
  agree_product first (x ∷ xs) h =
      let p = or_false (factor_names (circle f) x) _ h in
      ap (λ o. product g (joined ◌*ℤ◌ first o) xs) (agree_factor x p.0) ∙ agree_product (joined ◌*ℤ◌ first (factor_outcome f x)) xs p.1

  agree_total : (first : Outcome) (ts : List Term) → some_name (circle f) ts ≡ false → total g first ts ≡ total f first ts
  unfolding circle
  agree_total first [] h = refl
  agree_total first (t ∷ ts) h =
      let p = or_false (list_any (factor_names (circle f)) t.factors) _ h in
      ap (λ o. total g (joined (with_sign t.minus) first o) ts) (agree_product (Value (pos 1)) t.factors p.0)
      ∙ agree_total (joined (with_sign t.minus) first (term_outcome f t)) ts p.1

  agree_factor_names : (x : Factor) → factor_names (circle f) x ≡ false → factor_names (circle g) x ≡ false
  unfolding circle
  agree_factor_names (Name name) h = ap is_circular (agree name h) ∙ h
  agree_factor_names (Number n) h = refl

  agree_names : (xs : List Factor) → list_any (factor_names (circle f)) xs ≡ false → list_any (factor_names (circle g)) xs ≡ false
  agree_names [] h = refl
  agree_names (x ∷ xs) h =
      let p = or_false (factor_names (circle f) x) _ h in
      ap (λ b. b || list_any (factor_names (circle g)) xs) (agree_factor_names x p.0) ∙ agree_names xs p.1

  agree_some_name : (ts : List Term) → some_name (circle f) ts ≡ false → some_name (circle g) ts ≡ false
  agree_some_name [] h = refl
  agree_some_name (t ∷ ts) h =
      let p = or_false (list_any (factor_names (circle f)) t.factors) _ h in
      ap (λ b. b || some_name (circle g) ts) (agree_names t.factors p.0) ∙ agree_some_name ts p.1

  -- the outcome of an EQU
  pub equated_agree : (ts : List Term) → some_name (λ name. is_circular (f name)) ts ≡ false → equated g ts ≡ outcome_of f ts
  unfolding circle
  equated_agree ts h =
      ap (λ b. if b then Circular else outcome_of g ts) (agree_some_name ts h) ∙ agree_total (Value (pos 0)) ts h

-- ---- a circle shows in a name

bounded_known : (z : ℤ) → is_circular (bounded z) ≡ false
bounded_known z = by (fits_integer z)
  where
    by : (b : Bool) → is_circular (if b then Value z else NoValue) ≡ false
    by true = refl
    by false = refl

joined_known : (op : ℤ → ℤ → ℤ) (a b : Outcome) → is_circular a ≡ false → is_circular b ≡ false → is_circular (joined op a b) ≡ false
joined_known op (Value a) (Value b) h k = bounded_known (op a b)
joined_known op (Value a) NoValue h k = refl
joined_known op (Value a) Circular h k = k
joined_known op NoValue b h k = refl
joined_known op Circular b h k = absurd (true≢false h)

module _ (f : List ℕ → Outcome) where
  factor_known : (x : Factor) → factor_names (λ name. is_circular (f name)) x ≡ false → is_circular (factor_outcome f x) ≡ false
  factor_known (Name name) h = h
  factor_known (Number n) h = bounded_known (pos n)

  product_known : (first : Outcome) (xs : List Factor) → is_circular first ≡ false → list_any (factor_names (λ name. is_circular (f name))) xs ≡ false → is_circular (product f first xs) ≡ false
  product_known first [] k h = k
  product_known first (x ∷ xs) k h =
      let p = or_false (factor_names (λ name. is_circular (f name)) x) _ h in
      product_known (joined ◌*ℤ◌ first (factor_outcome f x)) xs (joined_known ◌*ℤ◌ first (factor_outcome f x) k (factor_known x p.0)) p.1

  total_known : (first : Outcome) (ts : List Term) → is_circular first ≡ false → some_name (λ name. is_circular (f name)) ts ≡ false → is_circular (total f first ts) ≡ false
  total_known first [] k h = k
  total_known first (t ∷ ts) k h =
      let p = or_false (list_any (factor_names (λ name. is_circular (f name))) t.factors) _ h in
      total_known (joined (with_sign t.minus) first (term_outcome f t)) ts (joined_known (with_sign t.minus) first (term_outcome f t) k (product_known (Value (pos 1)) t.factors refl p.0)) p.1

  -- an expression without circular names isn't circular
  pub outcome_of-known : (ts : List Term) → some_name (λ name. is_circular (f name)) ts ≡ false → is_circular (outcome_of f ts) ≡ false
  outcome_of-known ts h = total_known (Value (pos 0)) ts refl h

-- ---- circular names stay

or_true : (a b : Bool) → b ≡ true → (a || b) ≡ true
or_true true b h = refl
or_true false b h = h

stay_any : {A : Type 0} (p q : A → Bool) → ((x : A) → p x ≡ true → q x ≡ true) → (xs : List A) → list_any p xs ≡ true → list_any q xs ≡ true
stay_any p q step [] h = h
stay_any p q step (x ∷ xs) h = by (p x) (step x) h (stay_any p q step xs)
  where
    by : (b : Bool) → (b ≡ true → q x ≡ true) → (b || list_any p xs) ≡ true → (list_any p xs ≡ true → list_any q xs ≡ true) → (q x || list_any q xs) ≡ true
    by true here h rest = ap (λ c. c || list_any q xs) (here refl)
    by false here h rest = or_true (q x) (list_any q xs) (rest h)

module _ (f g : List ℕ → Outcome) (stay : (name : List ℕ) → is_circular (f name) ≡ true → is_circular (g name) ≡ true) where
  stay_factor : (x : Factor) → factor_names (λ name. is_circular (f name)) x ≡ true → factor_names (λ name. is_circular (g name)) x ≡ true
  stay_factor (Name name) h = stay name h
  stay_factor (Number n) h = h

  pub some_name_stays : (ts : List Term) → some_name (λ name. is_circular (f name)) ts ≡ true → some_name (λ name. is_circular (g name)) ts ≡ true
  some_name_stays ts = stay_any (λ t. list_any (factor_names (λ name. is_circular (f name))) t.factors) (λ t. list_any (factor_names (λ name. is_circular (g name))) t.factors)
      (λ t. stay_any (factor_names (λ name. is_circular (f name))) (factor_names (λ name. is_circular (g name))) stay_factor t.factors) ts
