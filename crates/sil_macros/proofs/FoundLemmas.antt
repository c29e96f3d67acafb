-- What is found by a number or by a name.
use Rattle.std.proofs.Common.{◌≡◌, ◌≢◌, ℕ, ◌<◌, ◌≤◌, Bool, true, false, List, [], ◌∷◌, Some, None, refl, sym, ap, ◌∙◌, cond, rules, nat_lt, nat_cmp, subst, inl, inr}
use Rattle.std.specs.Prelude.{Option, nat_eq, IfSome, IsNone, ◌↔◌}
use Rattle.std.specs.List.{find, list_all}
use Rattle.std.specs.Cmp.Lexicographic.{pointwise, slice_cmp}
use Rattle.std.specs.declared.cmp.Ordering.{Ordering}
use Rattle.std.specs.declared.cmp.Ordering.TheVariants.{Less, Equal, Greater}
use Rattle.std.proofs.lemmas.Bool.{agree_below_at, and_parts, eqb-true}
use Rattle.std.proofs.lemmas.Option.{slice_get_within, slice_get_past, slice_get_cases, get_or_from_slice_get}
use Rattle.std.proofs.lemmas.List.Sums.{AllPass-from_list_all}
use Rattle.sil_macros.specs.declared.names.Macro.{Macro}
use Rattle.sil_macros.specs.Macros.{number_of, name_of, macros, with_number, with_name}
use Rattle.sil_macros.proofs.TableLemmas.{with_number-number, with_name-name}

pub number_below : (m : Macro) → number_of m < 130
number_below m = slice_get_within macros (number_of m) m (with_number-number m)

some_has : {X : Type 0} (o : Option X) (P : X → Type 0) → ((x : X) → o ≡ Some x → P x) → IfSome o P
some_has None P h = tt
some_has (Some x) P h = h x refl

is_none : {X : Type 0} (o : Option X) → o ≡ None → IsNone o
is_none None e = refl
is_none (Some x) e = cc

none_is : {X : Type 0} (o : Option X) → IsNone o → o ≡ None
none_is None h = refl
none_is (Some x) h = cc

some_not : {X : Type 0} (x : X) → Some x ≡ None → ⊥
some_not x e = cc

none_unless : {X : Type 0} (o : Option X) → ((x : X) → o ≡ Some x → ⊥) → IsNone o
none_unless None h = refl
none_unless (Some x) h = absurd (h x refl)

has_number : ℕ → Option Macro → Bool
has_number n None = false
has_number n (Some m) = nat_eq (number_of m) n

pub numbered : (n : ℕ) (m : Macro) → with_number n ≡ Some m → number_of m ≡ n
unfolding has_number
numbered n m e =
    let at : has_number n (with_number n) ≡ true = agree_below_at (λ k. has_number k (with_number k)) (λ _. true) 130 n refl (slice_get_within macros n m e) in
    let same : nat_eq (number_of m) n ≡ true = ap (has_number n) (sym e) ∙ at in
    eqb-true (number_of m) n same

pub IfSome-with_number : (n : ℕ) → IfSome (with_number n) (λ m. number_of m ≡ n)
IfSome-with_number n = some_has (with_number n) (λ m. number_of m ≡ n) (numbered n)

pub no_number : (n : ℕ) → IsNone (with_number n) ↔ (130 ≤ n)
no_number n = (
  λ none. elim (slice_get_cases macros n).1 [ inl (m, below, is, same) ↦ absurd (some_not m (sym is ∙ none_is (with_number n) none)) | inr (past, is) ↦ past ],
  λ past. is_none (with_number n) (slice_get_past macros n past),
)

same_bytes : (xs ys : List ℕ) → pointwise nat_eq xs ys ≡ true → xs ≡ ys
same_bytes [] [] h = refl
same_bytes [] (y ∷ ys) h = cc
same_bytes (x ∷ xs) [] h = cc
same_bytes (x ∷ xs) (y ∷ ys) h =
    let first : x ≡ y = eqb-true x y (and_parts _ _ h).0 in
    let rest : xs ≡ ys = same_bytes xs ys (and_parts (nat_eq x y) (pointwise nat_eq xs ys) h).1 in
    cc

found_passes : {X : Type 0} (p : X → Bool) (xs : List X) (x : X) → find p xs ≡ Some x → p x ≡ true
found_passes p [] x e = cc
found_passes p (y ∷ ys) x e =
    elim (p y) as (λ b. p y ≡ b → cond b (Some y) (find p ys) ≡ Some x → p x ≡ true) [
      | true ↦ λ is h. let same : y ≡ x = cc in subst (λ z. p z ≡ true) same is
      | false ↦ λ is h. found_passes p ys x h
    ] refl e

pub named : (bytes : List ℕ) (m : Macro) → with_name bytes ≡ Some m → name_of m ≡ bytes
named bytes m e = same_bytes (name_of m) bytes (found_passes (λ k. pointwise nat_eq (name_of k) bytes) macros m e)

pub IfSome-with_name : (bytes : List ℕ) → IfSome (with_name bytes) (λ m. name_of m ≡ bytes)
IfSome-with_name bytes = some_has (with_name bytes) (λ m. name_of m ≡ bytes) (named bytes)

pub no_name : (bytes : List ℕ) → IsNone (with_name bytes) ↔ ((m : Macro) → name_of m ≢ bytes)
no_name bytes = (
  λ none m same. let there = with_name-name m in let where_bytes = ap with_name same in let not : with_name bytes ≡ None = none_is (with_name bytes) none in cc,
  λ others. none_unless (with_name bytes) (λ m is. others m (named bytes m is)),
)

pub one_number : (m k : Macro) → number_of m ≡ number_of k → m ≡ k
one_number m k e =
    let one = with_number-number m in
    let other = with_number-number k in
    let same = ap with_number e in
    cc

pub one_name : (m k : Macro) → name_of m ≡ name_of k → m ≡ k
one_name m k e =
    let one = with_name-name m in
    let other = with_name-name k in
    let same = ap with_name e in
    cc

is_less : Ordering → Bool
is_less Less = true
is_less Equal = false
is_less Greater = false

rises : Macro → Macro → Bool
rises m k = cond (nat_lt (number_of m) (number_of k)) (is_less (slice_cmp nat_cmp (name_of m) (name_of k))) true

all_rise : list_all (λ m. list_all (rises m) macros) macros ≡ true
unfolding rises is_less
all_rise = refl

at_macro : (p : Macro → Bool) → list_all p macros ≡ true → (m : Macro) → p m ≡ true
at_macro p h m =
    ap p (sym (get_or_from_slice_get macros (number_of m) m m (with_number-number m))) ∙ AllPass-from_list_all p macros h (number_of m) m (number_below m)

less_is : (o : Ordering) → is_less o ≡ true → o ≡ Less
unfolding is_less
less_is Less h = refl
less_is Equal h = cc
less_is Greater h = cc

pub names_rise : (m k : Macro) → number_of m < number_of k → slice_cmp nat_cmp (name_of m) (name_of k) ≡ Less
unfolding rises
names_rise m k h =
    let both : rises m k ≡ true = at_macro (rises m) (at_macro (λ n. list_all (rises n) macros) all_rise m) k in
    let below : nat_lt (number_of m) (number_of k) ≡ true = search rules in
    less_is _ (ap (λ b. cond b (is_less (slice_cmp nat_cmp (name_of m) (name_of k))) true) (sym below) ∙ both)
