-- A turn of each loop.
use Rattle.std.proofs.Common.{◌≡◌, ℕ, zero, suc, append-nil, ◌+◌, ◌-◌, ◌<◌, ◌≤◌, List, [], ◌∷◌, ◌++◌, length, take, drop, get_or, set, Option, Some, None, refl, sym, ap, ◌∙◌, arith, append_assoc}
use Rattle.std.proofs.Math.Seq.{drop-cons}
use Rattle.std.proofs.lemmas.List.{take_more_set}
use Rattle.std.specs.Prelude.{ℤ, pos, option_map, map}
use Rattle.sil_format.specs.declared.value.Value.{Value}
use Rattle.sil_format.specs.declared.value.Value.TheVariants.{Number}
use Rattle.layout_params.specs.declared.cell.Descr.{Descr}
use Rattle.sil_model.specs.declared.specifier.Specifier.{Specifier}
use Rattle.sil_model.specs.Access.{◌>>=◌, a_at, descr_at, set_descr_at}
use Rattle.sil_model.specs.Integers.{◌⊞◌}
use Rattle.sil_model.specs.Lists.{all_a_read, all_read, all_written, all_specs_read, all_specs_written, line}
use Rattle.sil_model.specs.Memory.{Memory}
use Rattle.sil_model.specs.Specifiers.{spec_at, set_spec_at}

-- ---- lines of addresses

pub line_none : (at step : ℤ) (n : ℕ) → n ≡ 0 → line at step n ≡ []
unfolding line
line_none at step n e = rw e refl

pub line_more : (at step : ℤ) (n : ℕ) → 0 < n → line at step n ≡ at ∷ line (at ⊞ step) step (n - 1)
unfolding line
line_more at step zero h = absurd (omega (arith, h))
line_more at step (suc n) h =
    let e : suc n - 1 ≡ n = omega arith in
    rw e refl

pub ruleset lines = (line_none, line_more)

drop_past : {A : Type 0} (xs : List A) (i : ℕ) → length xs ≤ i → drop i xs ≡ []
drop_past [] zero le = refl
drop_past [] (suc i) le = refl
drop_past (x ∷ xs) zero le = absurd (omega arith)
drop_past (x ∷ xs) (suc i) le = drop_past xs i (omega arith)

-- an address more
pub line_grow : (first at step : ℤ) (count i : ℕ) (places : List ℤ) → i < count → i < length places → line first step count ≡ take i places ++ line at step (count - i) → line first step count ≡ take (i + 1) (set places i at) ++ line (at ⊞ step) step (count - (i + 1))
line_grow first at step count i places lt lt' h =
    let e : count - i - 1 ≡ count - (i + 1) = omega arith in
    h ∙ ap (λ l. take i places ++ l) (line_more at step (count - i) (omega arith) ∙ ap (λ n. at ∷ line (at ⊞ step) step n) e)
    ∙ sym (append_assoc (take i places) (at ∷ []) (line (at ⊞ step) step (count - (i + 1)))) ∙ ap (λ f. f ++ line (at ⊞ step) step (count - (i + 1))) (sym (take_more_set places i at lt'))

pub line_end : (first at step : ℤ) (count i : ℕ) (places : List ℤ) → count ≡ i → line first step count ≡ take i places ++ line at step (count - i) → take count places ≡ line first step count
line_end first at step count i places e h =
    let none : count - i ≡ 0 = omega arith in
    ap (λ j. take j places) e ∙ sym (append-nil (take i places)) ∙ ap (λ l. take i places ++ l) (sym (line_none at step (count - i) none)) ∙ sym h

-- ---- what is read at each place, and written in order, by the access to one

-- what is left is read behind what was read
abbrev pub ReadSoFar : {A : Type 0} → (Memory → List ℤ → Option (List A)) → Memory → List ℤ → List A → ℕ → Type 0
ReadSoFar reads m ats values i = reads m ats ≡ option_map (λ rest. take i values ++ rest) (reads m (drop i ats))

-- what is left of the writes does what all of them do
abbrev pub WritesLeft : {A : Type 0} → (Memory → List ℤ → List A → Option Memory) → Memory → Memory → List ℤ → List A → ℕ → Type 0
WritesLeft writes m m' ats xs i = writes m ats xs ≡ writes m' (drop i ats) (drop i xs)

pub nothing_read : {A : Type 0} (o : Option (List A)) → option_map (λ rest. rest) o ≡ o
nothing_read None = refl
nothing_read (Some xs) = refl

module _ {A : Type 0} (read : Memory → ℤ → Option A) (reads : Memory → List ℤ → Option (List A)) (none : (m : Memory) → reads m [] ≡ Some []) (more : (m : Memory) (at : ℤ) (ats : List ℤ) → reads m (at ∷ ats) ≡ (read m at >>= (λ x. reads m ats >>= (λ xs. Some (x ∷ xs))))) where
  behind : (front : List A) (x : A) (o : Option (List A)) → option_map (λ rest. front ++ rest) (o >>= (λ xs. Some (x ∷ xs))) ≡ option_map (λ rest. (front ++ x ∷ []) ++ rest) o
  behind front x None = refl
  behind front x (Some xs) = ap Some (sym (append_assoc front (x ∷ []) xs))

  here : (m : Memory) (ats : List ℤ) (i : ℕ) → i < length ats → reads m (drop i ats) ≡ (read m (get_or ats i (pos 0)) >>= (λ x. reads m (drop (suc i) ats) >>= (λ xs. Some (x ∷ xs))))
  here m ats i lt = ap (reads m) (drop-cons ats i (pos 0) lt) ∙ more m (get_or ats i (pos 0)) (drop (suc i) ats)

  pub read_more : (m : Memory) (ats : List ℤ) (values : List A) (i : ℕ) (x : A) → i < length ats → i < length values → read m (get_or ats i (pos 0)) ≡ Some x → ReadSoFar reads m ats values i → ReadSoFar reads m ats (set values i x) (i + 1)
  read_more m ats values i x lt lt' e h =
      let next : suc i ≡ i + 1 = omega arith in
      h ∙ ap (option_map (λ rest. take i values ++ rest)) (here m ats i lt)
      ∙ ap (λ o. option_map (λ rest. take i values ++ rest) (o >>= (λ y. reads m (drop (suc i) ats) >>= (λ ys. Some (y ∷ ys))))) e
      ∙ behind (take i values) x (reads m (drop (suc i) ats))
      ∙ ap (λ f. option_map (λ rest. f ++ rest) (reads m (drop (suc i) ats))) (sym (take_more_set values i x lt'))
      ∙ ap (λ j. option_map (λ rest. take (i + 1) (set values i x) ++ rest) (reads m (drop j ats))) next

  pub read_stops : (m : Memory) (ats : List ℤ) (values : List A) (i : ℕ) → i < length ats → read m (get_or ats i (pos 0)) ≡ None → ReadSoFar reads m ats values i → reads m ats ≡ None
  read_stops m ats values i lt e h =
      h ∙ ap (option_map (λ rest. take i values ++ rest)) (here m ats i lt)
      ∙ ap (λ o. option_map (λ rest. take i values ++ rest) (o >>= (λ y. reads m (drop (suc i) ats) >>= (λ ys. Some (y ∷ ys))))) e

  pub read_end : (m : Memory) (ats : List ℤ) (values : List A) (i : ℕ) → i ≡ length ats → ReadSoFar reads m ats values i → reads m ats ≡ Some (take (length ats) values)
  read_end m ats values i e h =
      h ∙ ap (λ l. option_map (λ rest. take i values ++ rest) (reads m l)) (drop_past ats i (omega arith)) ∙ ap (option_map (λ rest. take i values ++ rest)) (none m) ∙ ap Some (append-nil (take i values)) ∙ ap (λ j. Some (take j values)) e

module _ {A : Type 0} (write : Memory → ℤ → A → Option Memory) (writes : Memory → List ℤ → List A → Option Memory) (none : (m : Memory) (xs : List A) → writes m [] xs ≡ Some m) (more : (m : Memory) (at : ℤ) (ats : List ℤ) (x : A) (xs : List A) → writes m (at ∷ ats) (x ∷ xs) ≡ (write m at x >>= (λ m'. writes m' ats xs))) where
  writes_here : (m : Memory) (ats : List ℤ) (xs : List A) (i : ℕ) (default : A) → i < length ats → i < length xs → writes m (drop i ats) (drop i xs) ≡ (write m (get_or ats i (pos 0)) (get_or xs i default) >>= (λ m'. writes m' (drop (i + 1) ats) (drop (i + 1) xs)))
  writes_here m ats xs i default lt lt' =
      let next : suc i ≡ i + 1 = omega arith in
      ap (λ l. writes m l (drop i xs)) (drop-cons ats i (pos 0) lt) ∙ ap (λ l. writes m (get_or ats i (pos 0) ∷ drop (suc i) ats) l) (drop-cons xs i default lt')
      ∙ more m (get_or ats i (pos 0)) (drop (suc i) ats) (get_or xs i default) (drop (suc i) xs)
      ∙ ap (λ j. write m (get_or ats i (pos 0)) (get_or xs i default) >>= (λ m'. writes m' (drop j ats) (drop j xs))) next

  pub write_more : (m m1 m2 : Memory) (ats : List ℤ) (xs : List A) (i : ℕ) (default : A) → i < length ats → i < length xs → write m1 (get_or ats i (pos 0)) (get_or xs i default) ≡ Some m2 → WritesLeft writes m m1 ats xs i → WritesLeft writes m m2 ats xs (i + 1)
  write_more m m1 m2 ats xs i default lt lt' e h = h ∙ writes_here m1 ats xs i default lt lt' ∙ ap (λ o. o >>= (λ m'. writes m' (drop (i + 1) ats) (drop (i + 1) xs))) e

  pub write_stops : (m m1 : Memory) (ats : List ℤ) (xs : List A) (i : ℕ) (default : A) → i < length ats → i < length xs → write m1 (get_or ats i (pos 0)) (get_or xs i default) ≡ None → WritesLeft writes m m1 ats xs i → writes m ats xs ≡ None
  write_stops m m1 ats xs i default lt lt' e h = h ∙ writes_here m1 ats xs i default lt lt' ∙ ap (λ o. o >>= (λ m'. writes m' (drop (i + 1) ats) (drop (i + 1) xs))) e

  pub write_end : (m m1 : Memory) (ats : List ℤ) (xs : List A) (i : ℕ) → i ≡ length ats → WritesLeft writes m m1 ats xs i → writes m ats xs ≡ Some m1
  write_end m m1 ats xs i e h = h ∙ ap (λ l. writes m1 l (drop i xs)) (drop_past ats i (omega arith)) ∙ none m1 (drop i xs)

-- ---- of descriptors and of specifiers

pub all_read_none : (m : Memory) → all_read m [] ≡ Some []
unfolding all_read
all_read_none m = refl

pub all_read_more : (m : Memory) (at : ℤ) (ats : List ℤ) → all_read m (at ∷ ats) ≡ (descr_at m at >>= (λ d. all_read m ats >>= (λ ds. Some (d ∷ ds))))
unfolding all_read
all_read_more m at ats = refl

-- the A field at a place as a value, and those at all of them
abbrev pub value_at : Memory → ℤ → Option Value
value_at m at = option_map Number (a_at m at)

abbrev pub all_values_read : Memory → List ℤ → Option (List Value)
all_values_read m ats = option_map (map Number) (all_a_read m ats)

pub all_values_none : (m : Memory) → all_values_read m [] ≡ Some []
unfolding all_a_read
all_values_none m = refl

value_more : (o : Option ℤ) (rest : Option (List ℤ)) → option_map (map Number) (o >>= (λ a. rest >>= (λ more. Some (a ∷ more)))) ≡ (option_map Number o >>= (λ x. option_map (map Number) rest >>= (λ xs. Some (x ∷ xs))))
value_more None rest = refl
value_more (Some a) None = refl
value_more (Some a) (Some more) = refl

pub all_values_more : (m : Memory) (at : ℤ) (ats : List ℤ) → all_values_read m (at ∷ ats) ≡ (value_at m at >>= (λ x. all_values_read m ats >>= (λ xs. Some (x ∷ xs))))
unfolding all_a_read
all_values_more m at ats = value_more (a_at m at) (all_a_read m ats)

pub all_written_none : (m : Memory) (ds : List Descr) → all_written m [] ds ≡ Some m
unfolding all_written
all_written_none m ds = refl

pub all_written_more : (m : Memory) (at : ℤ) (ats : List ℤ) (d : Descr) (ds : List Descr) → all_written m (at ∷ ats) (d ∷ ds) ≡ (set_descr_at m at d >>= (λ m'. all_written m' ats ds))
unfolding all_written
all_written_more m at ats d ds = refl

pub all_specs_read_none : (m : Memory) → all_specs_read m [] ≡ Some []
unfolding all_specs_read
all_specs_read_none m = refl

pub all_specs_read_more : (m : Memory) (at : ℤ) (ats : List ℤ) → all_specs_read m (at ∷ ats) ≡ (spec_at m at >>= (λ s. all_specs_read m ats >>= (λ ss. Some (s ∷ ss))))
unfolding all_specs_read
all_specs_read_more m at ats = refl

pub all_specs_written_none : (m : Memory) (ss : List Specifier) → all_specs_written m [] ss ≡ Some m
unfolding all_specs_written
all_specs_written_none m ss = refl

pub all_specs_written_more : (m : Memory) (at : ℤ) (ats : List ℤ) (s : Specifier) (ss : List Specifier) → all_specs_written m (at ∷ ats) (s ∷ ss) ≡ (set_spec_at m at s >>= (λ m'. all_specs_written m' ats ss))
unfolding all_specs_written
all_specs_written_more m at ats s ss = refl
