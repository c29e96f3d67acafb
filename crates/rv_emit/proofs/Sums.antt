-- Sums of the lengths of the first items of a list.
use Rattle.std.proofs.Common.{◌≡◌, ℕ, zero, suc, ◌+◌, ◌<◌, ◌≤◌, List, [], ◌∷◌, length, take, Some, refl, ap, arith}
use Rattle.std.specs.Prelude.{sum_by, slice_get}
use Rattle.std.proofs.lemmas.List.Sums.{sum_by-cons}

pub take_all : {A : Type 0} (xs : List A) → take (length xs) xs ≡ xs
take_all [] = refl
take_all (x ∷ xs) = ap (λ ys. x ∷ ys) (take_all xs)

module _ {A : Type 0} (f : A → ℕ) where
  -- one more
  pub sum_next : (xs : List A) (q : ℕ) (x : A) → slice_get xs q ≡ Some x → sum_by f (take (suc q) xs) ≡ sum_by f (take q xs) + f x
  sum_next [] q x e = absurd cc
  sum_next (y ∷ xs) zero x e =
      let same : y ≡ x = cc in
      let value = ap f same in
      omega arith
  sum_next (y ∷ xs) (suc q) x e =
      let rest = sum_next xs q x e in
      omega (arith, sum_by-cons f y (take (suc q) xs), sum_by-cons f y (take q xs))

  -- more are no less
  pub sum_more : (xs : List A) (q r : ℕ) → q ≤ r → sum_by f (take q xs) ≤ sum_by f (take r xs)
  sum_more [] zero zero h = omega arith
  sum_more [] zero (suc r) h = omega arith
  sum_more [] (suc q) zero h = omega arith
  sum_more [] (suc q) (suc r) h = omega arith
  sum_more (x ∷ xs) zero r h = omega arith
  sum_more (x ∷ xs) (suc q) zero h = absurd (omega arith)
  sum_more (x ∷ xs) (suc q) (suc r) h =
      let rest = sum_more xs q r (omega arith) in
      omega (arith, sum_by-cons f x (take q xs), sum_by-cons f x (take r xs))

  -- and where no item is nothing, they are more
  pub sum_rises : ((x : A) → 0 < f x) → (xs : List A) (q r : ℕ) → q < r → r ≤ length xs → sum_by f (take q xs) < sum_by f (take r xs)
  sum_rises some [] q r h le = absurd (omega arith)
  sum_rises some (x ∷ xs) q zero h le = absurd (omega arith)
  sum_rises some (x ∷ xs) zero (suc r) h le = omega (arith, some x, sum_by-cons f x (take r xs))
  sum_rises some (x ∷ xs) (suc q) (suc r) h le =
      let rest = sum_rises some xs q r (omega arith) (omega arith) in
      omega (arith, sum_by-cons f x (take q xs), sum_by-cons f x (take r xs))
