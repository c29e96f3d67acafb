-- Labels, one statement more.
use Rattle.std.proofs.Common.{◌≡◌, ℕ, ◌+◌, ◌<◌, Bool, true, false, cond, ◌&&◌, List, [], ◌∷◌, ◌++◌, length, take, get_or, Option, Some, None, is_some, if◌then◌else◌, refl, ap, sym, ◌∙◌, nat_eq, arith, length-take}
use Rattle.std.specs.Cmp.Lexicographic.{pointwise}
use Rattle.std.specs.List.{position_from}
use Rattle.std.specs.Map.{lookup}
use Rattle.std.specs.Option.{option_or}
use Rattle.std.proofs.lemmas.List.{take_more}
use Rattle.indexmap.specs.IndexMap.{insert_entry}
use Rattle.sil_symbols.specs.declared.stmt.Stmt.{Stmt}
use Rattle.sil_symbols.specs.Labels.{is_labelled, defines, labelled}

-- ---- a map by texts

module _ {K : Type 0} (test : K → Bool) where
  lookup-push : (es : List (K × ℕ)) (key : K) (v : ℕ) → lookup test (es ++ (key, v) ∷ []) ≡ option_or (lookup test es) (if test key then Some v else None)
  lookup-push [] key v = refl
  lookup-push (e ∷ es) key v = by (test e.0) (lookup-push es key v)
    where
      by : (b : Bool) → lookup test (es ++ (key, v) ∷ []) ≡ option_or (lookup test es) (if test key then Some v else None)
          → cond b (Some e.1) (lookup test (es ++ (key, v) ∷ [])) ≡ option_or (cond b (Some e.1) (lookup test es)) (if test key then Some v else None)
      by true rest = refl
      by false rest = rest

insert_entry-push : {K : Type 0} (eq : K → K → Bool) (es : List (K × ℕ)) (key : K) (v : ℕ) → lookup (eq key) es ≡ None → insert_entry eq es key v ≡ es ++ (key, v) ∷ []
insert_entry-push eq [] key v none = refl
insert_entry-push eq (e ∷ es) key v none = by (eq key e.0) (insert_entry-push eq es key v) none
  where
    by : (b : Bool) → (lookup (eq key) es ≡ None → insert_entry eq es key v ≡ es ++ (key, v) ∷ [])
        → cond b (Some e.1) (lookup (eq key) es) ≡ None → (if b then (e.0, v) ∷ es else e ∷ insert_entry eq es key v) ≡ e ∷ (es ++ (key, v) ∷ [])
    by true rest h = cc
    by false rest h = ap (λ l. e ∷ l) (rest h)

none_from_test : {X : Type 0} (o : Option X) → is_some o ≡ false → o ≡ None
none_from_test None h = refl
none_from_test (Some x) h = cc

-- a label that is new is looked up after it is added
pub lookup_added : {K : Type 0} (items : K → List ℕ) (es new : List (K × ℕ)) (key : K) (v : ℕ) (s : Stmt) → true ≡ is_labelled s → items key ≡ s.label
    → false ≡ is_some (lookup (λ k. pointwise nat_eq s.label (items k)) es) → new ≡ insert_entry (λ x y. pointwise nat_eq (items x) (items y)) es key v
    → (name : List ℕ) → lookup (λ k. pointwise nat_eq name (items k)) new ≡ option_or (lookup (λ k. pointwise nat_eq name (items k)) es) (if defines name s then Some v else None)
lookup_added items es new key v s named is absent new_is name =
    let none : lookup (λ k. pointwise nat_eq (items key) (items k)) es ≡ None =
    ap (λ l. lookup (λ k. pointwise nat_eq l (items k)) es) is ∙ none_from_test _ (sym absent) in
    let pushed = new_is ∙ insert_entry-push (λ x y. pointwise nat_eq (items x) (items y)) es key v none in
    let same : pointwise nat_eq name (items key) ≡ defines name s = ap (pointwise nat_eq name) is ∙ ap (λ b. b && pointwise nat_eq name s.label) named in
    ap (lookup (λ k. pointwise nat_eq name (items k))) pushed ∙ lookup-push (λ k. pointwise nat_eq name (items k)) es key v
    ∙ ap (λ b. option_or (lookup (λ k. pointwise nat_eq name (items k)) es) (if b then Some v else None)) same

-- ---- the statements

position_from-push : {A : Type 0} (test : A → Bool) (i : ℕ) (xs : List A) (x : A)
    → position_from test i (xs ++ x ∷ []) ≡ option_or (position_from test i xs) (if test x then Some (i + length xs) else None)
position_from-push test i [] x = ap (λ n. if test x then Some n else None) (omega arith)
position_from-push test i (y ∷ xs) x = by (test y) (position_from-push test (i + 1) xs x ∙ ap (λ n. option_or (position_from test (i + 1) xs) (if test x then Some n else None)) (omega arith))
  where
    by : (b : Bool) → position_from test (i + 1) (xs ++ x ∷ []) ≡ option_or (position_from test (i + 1) xs) (if test x then Some (i + length (y ∷ xs)) else None)
        → cond b (Some i) (position_from test (i + 1) (xs ++ x ∷ [])) ≡ option_or (cond b (Some i) (position_from test (i + 1) xs)) (if test x then Some (i + length (y ∷ xs)) else None)
    by true rest = refl
    by false rest = rest

pub labelled-more : (statements : List Stmt) (i : ℕ) (s : Stmt) (name : List ℕ) → i < length statements → s ≡ get_or statements i s
    → labelled (take (i + 1) statements) name ≡ option_or (labelled (take i statements) name) (if defines name s then Some i else None)
labelled-more statements i s name within is =
    let step : take (i + 1) statements ≡ take i statements ++ s ∷ [] = take_more statements i s within ∙ ap (λ x. take i statements ++ x ∷ []) (sym is) in
    let count : 0 + length (take i statements) ≡ i = omega (arith, length-take i statements) in
    ap (λ l. labelled l name) step ∙ position_from-push (defines name) 0 (take i statements) s
    ∙ ap (λ n. option_or (labelled (take i statements) name) (if defines name s then Some n else None)) count
