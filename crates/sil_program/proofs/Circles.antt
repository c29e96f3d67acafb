-- Where no EQU rests on a circle, no name is circular: a chain of EQUs that is longer than the source rests on one.
use Rattle.std.proofs.Common.{◌≡◌, ℕ, zero, suc, ◌+◌, ◌*◌, ◌<◌, ◌≤◌, Bool, true, false, cond, not, ◌&&◌, leb, List, [], ◌∷◌, length, get_or, pos, Option, Some, None, refl, ap, sym, ◌∙◌, ◌⊎◌, inl, inr, arith, true≢false, if◌then◌else◌}
use Rattle.std.specs.Prelude.{All, ℤ}
use Rattle.std.proofs.lemmas.Bool.Decides.{leb_tells}
use Rattle.std.proofs.lemmas.List.Elements.{All-nil, All-cons, All-head, All-tail, All-weaker}
use Rattle.layout_params.specs.Parameters.{Parameters}
use Rattle.layout_params.specs.ParameterSymbols.{symbol_of}
use Rattle.sil_base.specs.declared.places.TheConstants.{FIRST_CELL, FIRST_ENTRY}
use Rattle.sil_macros.specs.declared.names.Macro.{Macro}
use Rattle.sil_macros.specs.declared.names.Macro.TheVariants as macros
use Rattle.sil_operands.specs.declared.expr.Term.{Term}
use Rattle.sil_symbols.specs.declared.outcome.Outcome.{Outcome}
use Rattle.sil_symbols.specs.declared.outcome.Outcome.TheVariants.{Value, NoValue, Circular}
use Rattle.sil_symbols.specs.declared.stmt.Stmt.{Stmt}
use Rattle.sil_symbols.specs.StatementParts.{part_of, is_equation}
use Rattle.sil_symbols.specs.Expressions.{fits_integer, bounded, outcome_of, some_name, is_circular, equated}
use Rattle.sil_symbols.specs.Labels.{labelled, origin_by}
use Rattle.sil_symbols.specs.NameValues.{Meaning, Fixed, Equals, first_expression, equation_by, meaning_at, meanings, meaning_of, first_outcome, next_outcome, outcome_within}
use Rattle.sil_symbols.specs.Addresses.{label_address, cell_address, entry, past, addresses_from, first_spot}
use Rattle.sil_symbols.specs.Symbols.{names_with, size_names, names_of}
use Rattle.sil_symbols.specs.SymbolRules.{is_circular_by, is_circular_equation}
use Rattle.sil_symbols.proofs.Agreement.{outcome_of-known, some_name_stays}

-- ---- counts

-- how many pass a test
abbrev passing : {A : Type 0} → (A → Bool) → List A → ℕ
passing p [] = 0
passing p (x ∷ xs) = cond (p x) 1 0 + passing p xs

few_pass : {A : Type 0} (p : A → Bool) (xs : List A) → passing p xs ≤ length xs
few_pass p [] = omega arith
few_pass p (x ∷ xs) = by (p x) (few_pass p xs)
  where
    by : (a : Bool) → passing p xs ≤ length xs → cond a 1 0 + passing p xs ≤ suc (length xs)
    by true h = omega arith
    by false h = omega arith

module _ {A : Type 0} (p q : A → Bool) (step : (x : A) → p x ≡ true → q x ≡ true) where
  abbrev Same : A → Type 0
  Same x = q x ≡ true → p x ≡ true

  more_count : (xs : List A) → passing p xs ≤ passing q xs
  more_count [] = omega arith
  more_count (x ∷ xs) = by (p x) (q x) (step x) (more_count xs)
    where
      by : (a b : Bool) → (a ≡ true → b ≡ true) → passing p xs ≤ passing q xs → cond a 1 0 + passing p xs ≤ cond b 1 0 + passing q xs
      by true true h rest = omega arith
      by true false h rest = absurd (true≢false (sym (h refl)))
      by false true h rest = omega arith
      by false false h rest = omega arith

  -- where no more pass the weaker test, each passes both or none
  same_count : (xs : List A) → passing q xs ≤ passing p xs → All Same xs
  same_count [] h = All-nil Same
  same_count (x ∷ xs) h = by (p x) (q x) (step x) refl refl (more_count xs) h (same_count xs)
    where
      by : (a b : Bool) → (a ≡ true → b ≡ true) → p x ≡ a → q x ≡ b → passing p xs ≤ passing q xs → cond b 1 0 + passing q xs ≤ cond a 1 0 + passing p xs
          → (passing q xs ≤ passing p xs → All Same xs) → All Same (x ∷ xs)
      by true true go is other more h rest = All-cons Same x xs (λ k. is) (rest (omega arith))
      by true false go is other more h rest = absurd (true≢false (sym (go refl)))
      by false true go is other more h rest = absurd (omega arith)
      by false false go is other more h rest = All-cons Same x xs (λ k. absurd (true≢false (sym k ∙ other))) (rest (omega arith))

-- where as many pass as there are, each passes
full_count : {A : Type 0} (p : A → Bool) (xs : List A) → length xs ≤ passing p xs → All (λ x. p x ≡ true) xs
full_count p [] h = All-nil (λ x. p x ≡ true)
full_count p (x ∷ xs) h = by (p x) refl (few_pass p xs) h (full_count p xs)
  where
    by : (a : Bool) → p x ≡ a → passing p xs ≤ length xs → suc (length xs) ≤ cond a 1 0 + passing p xs → (length xs ≤ passing p xs → All (λ x. p x ≡ true) xs) → All (λ x. p x ≡ true) (x ∷ xs)
    by true is most h rest = All-cons (λ x. p x ≡ true) x xs is (rest (omega arith))
    by false is most h rest = absurd (omega arith)

full_within : {A : Type 0} (p : A → Bool) (xs : List A) (n : ℕ) → length xs ≤ n → n ≤ passing p xs → All (λ x. p x ≡ true) xs
full_within p xs n most h = full_count p xs (omega arith)

-- ---- tests

was_true : (a b : Bool) → (not a ≡ true → not b ≡ true) → b ≡ true → a ≡ true
was_true true b h k = refl
was_true false b h k = absurd (true≢false (sym (h refl) ∙ ap not k))

not_is : (b : Bool) → not b ≡ true → b ≡ false
not_is true h = absurd (true≢false (sym h))
not_is false h = refl

-- an EQU is circular where it names a circular one
equated_circle : (f : List ℕ → Outcome) (ts : List Term) → is_circular (equated f ts) ≡ some_name (λ name. is_circular (f name)) ts
equated_circle f ts = by (some_name (λ name. is_circular (f name)) ts) refl
  where
    by : (b : Bool) → some_name (λ name. is_circular (f name)) ts ≡ b → is_circular (if b then Circular else outcome_of f ts) ≡ b
    by true e = refl
    by false e = outcome_of-known f ts e

-- ---- more EQUs followed

module _ (means : List ℕ → Meaning) where
  -- the outcome of a meaning, where so many EQUs are followed
  abbrev within : ℕ → Meaning → Outcome
  within zero m = first_outcome m
  within (suc n) m = next_outcome (outcome_within n means) m

  abbrev lost : ℕ → Meaning → Bool
  lost n m = is_circular (within n m)

  name_within : (n : ℕ) (name : List ℕ) → outcome_within n means name ≡ within n (means name)
  unfolding outcome_within
  name_within zero name = refl
  name_within (suc n) name = refl

  fixed_within : (n : ℕ) (o : Outcome) → within n (Fixed o) ≡ o
  fixed_within zero o = refl
  fixed_within (suc n) o = refl

  -- what is circular was so before
  lost_before : (n : ℕ) (m : Meaning) → lost (suc n) m ≡ true → lost n m ≡ true
  lost_before zero (Fixed o) h = h
  lost_before zero (Equals ts) h = refl
  lost_before (suc n) (Fixed o) h = h
  lost_before (suc n) (Equals ts) h =
      equated_circle (outcome_within n means) ts
      ∙ some_name_stays (outcome_within (suc n) means) (outcome_within n means)
      (λ name k. ap is_circular (name_within n name) ∙ lost_before n (means name) (sym (ap is_circular (name_within (suc n) name)) ∙ k))
      ts (sym (equated_circle (outcome_within (suc n) means) ts) ∙ h)

  -- no name is cleared by one EQU more
  abbrev IsStuck : ℕ → Type 0
  IsStuck n = (name : List ℕ) → is_circular (outcome_within n means name) ≡ true → is_circular (outcome_within (suc n) means name) ≡ true

  stuck_meaning : (n : ℕ) → IsStuck n → (m : Meaning) → lost (suc n) m ≡ true → lost (suc (suc n)) m ≡ true
  stuck_meaning n stuck (Fixed o) h = h
  stuck_meaning n stuck (Equals ts) h =
      equated_circle (outcome_within (suc n) means) ts
      ∙ some_name_stays (outcome_within n means) (outcome_within (suc n) means) stuck ts (sym (equated_circle (outcome_within n means) ts) ∙ h)

  stuck_next : (n : ℕ) → IsStuck n → IsStuck (suc n)
  stuck_next n stuck name h =
      ap is_circular (name_within (suc (suc n)) name) ∙ stuck_meaning n stuck (means name) (sym (ap is_circular (name_within (suc n) name)) ∙ h)

-- ---- all labels

all_or : {A : Type 0} (P : A → Type 0) (xs : List A) (i : ℕ) (d : A) → All P xs → P d → P (get_or xs i d)
all_or P [] i d all other = other
all_or P (x ∷ xs) zero d all other = All-head P x xs all
all_or P (x ∷ xs) (suc i) d all other = all_or P xs i d (All-tail P x xs all) other

module _ (labels : List Meaning) (parameters : List ℕ → Option ℤ) (places : List ℕ → Option ℕ) where
  abbrev means : List ℕ → Meaning
  means name = meaning_of labels (origin_by (parameters name) (places name))

  -- what holds for labels and for what is known holds for names
  named : (P : Meaning → Type 0) → ((o : Outcome) → is_circular o ≡ false → P (Fixed o)) → All P labels → (name : List ℕ) → P (means name)
  named P known all name = by (parameters name) (places name)
    where
      by : (value : Option ℤ) (place : Option ℕ) → P (meaning_of labels (origin_by value place))
      by (Some value) place = known (Value value) refl
      by None None = known NoValue refl
      by None (Some place) = all_or P labels place (Fixed NoValue) all (known NoValue refl)

  abbrev clear_count : ℕ → ℕ
  clear_count n = passing (λ m. not (lost means n m)) labels

  abbrev StaysLost : ℕ → Meaning → Type 0
  StaysLost n m = lost means n m ≡ true → lost means (suc n) m ≡ true

  cleared_stays : (n : ℕ) (m : Meaning) → not (lost means n m) ≡ true → not (lost means (suc n) m) ≡ true
  cleared_stays n m h = by (lost means (suc n) m) (lost means n m) (lost_before means n m) h
    where
      by : (a b : Bool) → (a ≡ true → b ≡ true) → not b ≡ true → not a ≡ true
      by true b before h = ap not (sym (before refl)) ∙ h
      by false b before h = refl

  -- where no more labels are clear than before, no name is cleared
  stuck_names : (n : ℕ) → All (StaysLost n) labels → IsStuck means n
  stuck_names n stays name h =
      let names = named (StaysLost n) (λ o clear k. ap is_circular (fixed_within means (suc n) o) ∙ sym (ap is_circular (fixed_within means n o)) ∙ k) stays in
      ap is_circular (name_within means (suc n) name) ∙ names name (sym (ap is_circular (name_within means n name)) ∙ h)

  stuck_or_more : (n : ℕ) → IsStuck means n ⊎ (suc (clear_count n) ≤ clear_count (suc n))
  stuck_or_more n = by (leb_tells (clear_count (suc n)) (clear_count n))
    where
      by : ((leb (clear_count (suc n)) (clear_count n) ≡ true) × (clear_count (suc n) ≤ clear_count n)) ⊎ ((leb (clear_count (suc n)) (clear_count n) ≡ false) × (clear_count n < clear_count (suc n))) →
          IsStuck means n ⊎ (suc (clear_count n) ≤ clear_count (suc n))
      by (inr p) = inr p.1
      by (inl p) =
          inl (stuck_names n (All-weaker (λ m. not (lost means (suc n) m) ≡ true → not (lost means n m) ≡ true) (StaysLost n)
          (λ m h k. was_true (lost means (suc n) m) (lost means n m) h k) labels
          (same_count (λ m. not (lost means n m)) (λ m. not (lost means (suc n) m)) (cleared_stays n) labels p.1)))

  many_or_stuck : (n : ℕ) → IsStuck means n ⊎ (n ≤ clear_count n)
  many_or_stuck zero = inr (omega arith)
  many_or_stuck (suc n) = by (many_or_stuck n) (stuck_or_more n)
    where
      by : IsStuck means n ⊎ (n ≤ clear_count n) → IsStuck means n ⊎ (suc (clear_count n) ≤ clear_count (suc n)) → IsStuck means (suc n) ⊎ (suc n ≤ clear_count (suc n))
      by (inl stuck) more = inl (stuck_next means n stuck)
      by (inr many) (inl stuck) = inl (stuck_next means n stuck)
      by (inr many) (inr more) = inr (omega arith)

  -- an EQU names none that is circular where so many EQUs are followed
  abbrev IsCalm : ℕ → Meaning → Type 0
  IsCalm n m = lost means (suc n) m ≡ false

  clear_name : (b : Bool) → (b ≡ true → true ≡ false) → b ≡ false
  clear_name true h = h refl
  clear_name false h = refl

  -- where as many are followed as there are labels at least, no name is circular
  pub no_name_lost : (n : ℕ) → length labels ≤ n → All (IsCalm n) labels → (name : List ℕ) → is_circular (outcome_within n means name) ≡ false
  no_name_lost n most calm = by (many_or_stuck n)
    where
      by : IsStuck means n ⊎ (n ≤ clear_count n) → (name : List ℕ) → is_circular (outcome_within n means name) ≡ false
      by (inl stuck) name =
          let next = named (IsCalm n) (λ o clear. ap is_circular (fixed_within means (suc n) o) ∙ clear) calm name in
          clear_name (is_circular (outcome_within n means name)) (λ h. sym (stuck name h) ∙ ap is_circular (name_within means (suc n) name) ∙ next)
      by (inr many) name =
          let all = full_within (λ m. not (lost means n m)) labels n most many in
          let names = named (λ m. not (lost means n m) ≡ true) (λ o clear. ap not (ap is_circular (fixed_within means n o) ∙ clear)) all name in
          ap is_circular (name_within means n name) ∙ not_is (lost means n (means name)) names

-- ---- a source

clear_bounded : (z : ℤ) → is_circular (bounded z) ≡ false
clear_bounded z = by (fits_integer z)
  where
    by : (b : Bool) → is_circular (if b then Value z else NoValue) ≡ false
    by true = refl
    by false = refl

clear_here : (b : Bool) (descr cells statements : ℕ) → is_circular (if b then cell_address descr cells else entry descr statements) ≡ false
clear_here true descr cells statements = clear_bounded (pos (FIRST_CELL + cells * descr))
clear_here false descr cells statements = clear_bounded (pos (FIRST_ENTRY + statements * descr))

-- no address is circular
clear_label : (descr : ℕ) (spot : _) (name : Macro) → is_circular (label_address descr spot (part_of name)) ≡ false
clear_label descr spot macros.Equ = refl
clear_label descr spot macros.Title = refl
clear_label descr spot macros.Copy = refl
clear_label descr spot macros.End = refl
clear_label descr spot macros.Lhere = clear_here spot.in_data descr spot.cells spot.statements
clear_label descr spot macros.Descr = clear_bounded (pos (FIRST_CELL + spot.cells * descr))
clear_label descr spot macros.Spec = clear_bounded (pos (FIRST_CELL + spot.cells * descr))
clear_label descr spot macros.Array = clear_bounded (pos (FIRST_CELL + spot.cells * descr))
clear_label descr spot macros.Buffer = clear_bounded (pos (FIRST_CELL + spot.cells * descr))
clear_label descr spot macros.String = clear_bounded (pos (FIRST_CELL + spot.cells * descr))
clear_label descr spot macros.Format = clear_bounded (pos (FIRST_CELL + spot.cells * descr))
clear_label descr spot _ = clear_bounded (pos (FIRST_ENTRY + spot.statements * descr))

clear_meaning : (f : List ℕ → Outcome) (address : Outcome) (b : Bool) (o : Option (List Term)) → is_circular address ≡ false → (b && is_circular_by f o) ≡ false → is_circular (next_outcome f (if b then equation_by o else Fixed address)) ≡ false
clear_meaning f address true None clear h = refl
clear_meaning f address true (Some ts) clear h = equated_circle f ts ∙ h
clear_meaning f address false o clear h = clear

module _ (means : List ℕ → Meaning) (n : ℕ) (descr : ℕ) (sizes : List ℕ → Outcome) where
  calm_labels : (spot : _) (source : List Stmt) → All (λ s. is_circular_equation (outcome_within n means) s ≡ false) source → All (λ m. lost means (suc n) m ≡ false) (meanings (addresses_from descr sizes spot source) source)
  calm_labels spot [] all = All-nil (λ m. lost means (suc n) m ≡ false)
  calm_labels spot (s ∷ source) all =
      let P : Stmt → Type 0 = λ t. is_circular_equation (outcome_within n means) t ≡ false in
      let address = label_address descr spot (part_of s.name) in
      All-cons (λ m. lost means (suc n) m ≡ false) (meaning_at address s) (meanings (addresses_from descr sizes (past descr sizes spot s) source) source)
      (clear_meaning (outcome_within n means) address (is_equation (part_of s.name)) (first_expression s.operands) (clear_label descr spot s.name) (All-head P s source all))
      (calm_labels (past descr sizes spot s) source (All-tail P s source all))

one_more : (m n : ℕ) → m ≤ n → suc m ≤ suc n
one_more m n h = omega arith

few_labels : (descr : ℕ) (sizes : List ℕ → Outcome) (spot : _) (source : List Stmt) → length (meanings (addresses_from descr sizes spot source) source) ≤ length source
few_labels descr sizes spot [] = omega arith
few_labels descr sizes spot (s ∷ source) = one_more _ _ (few_labels descr sizes (past descr sizes spot s) source)

-- where no EQU rests on a circle, no name does
pub no_circle : (p : Parameters) (source : List Stmt) → All (λ s. is_circular_equation (names_of p source) s ≡ false) source → (name : List ℕ) → is_circular (names_of p source name) ≡ false
unfolding names_of names_with
no_circle p source all name =
    let descr = p.settings.sizes.descr in
    let sizes = size_names p source in
    let labels = meanings (addresses_from descr sizes first_spot source) source in
    no_name_lost labels (symbol_of p) (labelled source) (length source) (few_labels descr sizes first_spot source)
    (calm_labels (means labels (symbol_of p) (labelled source)) (length source) descr sizes first_spot source all) name
