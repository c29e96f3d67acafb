-- The numbers of names, one name more.
use Rattle.std.proofs.Common.{◌≡◌, ℕ, ◌+◌, ◌<◌, Bool, true, false, cond, List, [], ◌∷◌, ◌++◌, length, take, Option, Some, None, is_some, if◌then◌else◌, refl, ap, sym, ◌∙◌, nat_eq, zero, suc, ◌≤◌, ◌||◌, arith}
use Rattle.std.specs.Cmp.Lexicographic.{pointwise}
use Rattle.std.specs.List.{list_any, position_from, position_or_len}
use Rattle.std.specs.Map.{lookup}
use Rattle.std.specs.Option.{option_or}
use Rattle.std.specs.Prelude.{nat_lt, position, IfSome}
use Rattle.std.proofs.lemmas.Bool.Decides.{nat_tests}
use Rattle.std.proofs.lemmas.Iterator.Adapters.{position_from-zero}
use Rattle.indexmap.specs.IndexMap.{insert_entry}
use Rattle.sil_base.specs.Names.{is_word}

-- ---- a map by texts

module _ {K : Type 0} (test : K → Bool) where
  lookup-push : (es : List (K × ℕ)) (key : K) (v : ℕ) → lookup test (es ++ (key, v) ∷ []) ≡ option_or (lookup test es) (if test key then Some v else None)
  lookup-push [] key v = refl
  lookup-push (e ∷ es) key v = by (test e.0) (lookup-push es key v)
    where
      by : (b : Bool) → lookup test (es ++ (key, v) ∷ []) ≡ option_or (lookup test es) (if test key then Some v else None)
          → cond b (Some e.1) (lookup test (es ++ (key, v) ∷ [])) ≡ option_or (cond b (Some e.1) (lookup test es)) (if test key then Some v else None)
      by true rest = refl
      by false rest = rest

insert_entry-push : {K : Type 0} (eq : K → K → Bool) (es : List (K × ℕ)) (key : K) (v : ℕ) → lookup (eq key) es ≡ None → insert_entry eq es key v ≡ es ++ (key, v) ∷ []
insert_entry-push eq [] key v none = refl
insert_entry-push eq (e ∷ es) key v none = by (eq key e.0) (insert_entry-push eq es key v) none
  where
    by : (b : Bool) → (lookup (eq key) es ≡ None → insert_entry eq es key v ≡ es ++ (key, v) ∷ [])
        → cond b (Some e.1) (lookup (eq key) es) ≡ None → (if b then (e.0, v) ∷ es else e ∷ insert_entry eq es key v) ≡ e ∷ (es ++ (key, v) ∷ [])
    by true rest h = cc
    by false rest h = ap (λ l. e ∷ l) (rest h)

none_from_test : {X : Type 0} (o : Option X) → is_some o ≡ false → o ≡ None
none_from_test None h = refl
none_from_test (Some x) h = cc

-- a name that is new is looked up after it is added
pub lookup_added : {K : Type 0} (items : K → List ℕ) (es new : List (K × ℕ)) (key : K) (v : ℕ) (name : List ℕ) → items key ≡ name
    → false ≡ is_some (lookup (λ k. pointwise nat_eq name (items k)) es) → new ≡ insert_entry (λ x y. pointwise nat_eq (items x) (items y)) es key v
    → (other : List ℕ) → lookup (λ k. pointwise nat_eq other (items k)) new ≡ option_or (lookup (λ k. pointwise nat_eq other (items k)) es) (if is_word other name then Some v else None)
lookup_added items es new key v name is absent new_is other =
    let none : lookup (λ k. pointwise nat_eq (items key) (items k)) es ≡ None =
    ap (λ l. lookup (λ k. pointwise nat_eq l (items k)) es) is ∙ none_from_test _ (sym absent) in
    let pushed = new_is ∙ insert_entry-push (λ x y. pointwise nat_eq (items x) (items y)) es key v none in
    ap (lookup (λ k. pointwise nat_eq other (items k))) pushed ∙ lookup-push (λ k. pointwise nat_eq other (items k)) es key v
    ∙ ap (λ l. option_or (lookup (λ k. pointwise nat_eq other (items k)) es) (if pointwise nat_eq other l then Some v else None)) is

-- ---- names among the first so many

abbrev pub is_below : ℕ → Option ℕ → Bool
is_below count None = false
is_below count (Some k) = nat_lt k count

not_below : (k count : ℕ) → count ≤ k → nat_lt k count ≡ false
not_below k count h = grind (arith, nat_tests)

just_below : (k count : ℕ) → k < count → nat_lt k count ≡ true
just_below k count h = grind (arith, nat_tests)

none_first : (b : Bool) (start count : ℕ) (rest : Option ℕ) → count ≤ start → is_below count rest ≡ false → is_below count (cond b (Some start) rest) ≡ false
none_first true start count rest h others = not_below start count h
none_first false start count rest h others = others

none_below : (test : List ℕ → Bool) (start : ℕ) (names : List (List ℕ)) (count : ℕ) → count ≤ start → is_below count (position_from test start names) ≡ false
none_below test start [] count h = refl
none_below test start (name ∷ names) count h =
    none_first (test name) start count (position_from test (start + 1) names) h (none_below test (start + 1) names count (omega (arith, h)))

first_below : (b rest : Bool) (start count : ℕ) (found : Option ℕ) → rest ≡ is_below (start + suc count) found → (b || rest) ≡ is_below (start + suc count) (cond b (Some start) found)
first_below true rest start count found h = sym (just_below start (start + suc count) (omega arith))
first_below false rest start count found h = h

before_from : (test : List ℕ → Bool) (start : ℕ) (names : List (List ℕ)) (count : ℕ) → list_any test (take count names) ≡ is_below (start + count) (position_from test start names)
before_from test start [] zero = refl
before_from test start [] (suc count) = refl
before_from test start (name ∷ names) zero = sym (none_below test start (name ∷ names) (start + 0) (omega arith))
before_from test start (name ∷ names) (suc count) =
    let same : start + 1 + count ≡ start + suc count = omega arith in
    first_below (test name) (list_any test (take count names)) start count (position_from test (start + 1) names)
    (before_from test (start + 1) names count ∙ ap (λ n. is_below n (position_from test (start + 1) names)) same)

-- a name is among the first so many where its first place is before their end
pub before : (test : List ℕ → Bool) (names : List (List ℕ)) (count : ℕ) (o : Option ℕ) → o ≡ position test names → is_below count o ≡ list_any test (take count names)
before test names count o h =
    let none : count ≡ 0 + count = omega arith in
    ap (is_below count) (h ∙ position_from-zero test names) ∙ ap (λ n. is_below n (position_from test 0 names)) none ∙ sym (before_from test 0 names count)

-- the place of a name is one of so many
within_by : (b : Bool) (k count : ℕ) → nat_lt k count ≡ b → IfSome (cond b (Some k) None) (λ at. at < count)
within_by true k count h = grind (arith, nat_tests)
within_by false k count h = tt

pub place_within : (test : List ℕ → Bool) (names : List (List ℕ)) (o : Option ℕ) → o ≡ position test names → IfSome o (λ at. at < length names)
place_within test names o h = rw h (within_by (nat_lt (position_or_len test names) (length names)) (position_or_len test names) (length names) refl)

pub found_none : (found : Option ℕ) → option_or found None ≡ found
found_none None = refl
found_none (Some x) = refl
