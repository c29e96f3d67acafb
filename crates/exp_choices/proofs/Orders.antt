-- How two numbers stand to each other.
use Rattle.std.proofs.Common.{◌≡◌, Bool, true, false, refl, arith}
use Rattle.std.proofs.lemmas.Bool.Decides.{nat_tests}
use Rattle.std.proofs.lemmas.Int.{ints}
use Rattle.std.specs.Prelude.{ℤ, int_lt}
use Rattle.sil_model.specs.declared.program.Flow.{Flow}
use Rattle.choice_clauses.specs.ComparisonClauses.{by_equality}
use Rattle.sil_micro.specs.MicroWords.{same_integer}

-- the first is greater, or they are equal, or it is less
pub by_order : {P : Type 0} (x y : ℤ) → (int_lt y x ≡ true → same_integer x y ≡ false → P) → (int_lt y x ≡ false → int_lt x y ≡ false → same_integer x y ≡ true → P) →
    (int_lt y x ≡ false → int_lt x y ≡ true → same_integer x y ≡ false → P) → P
by_order {P} x y greater equal less = go (int_lt y x) (int_lt x y) refl refl where
  go : (a b : Bool) → int_lt y x ≡ a → int_lt x y ≡ b → P
  go true b is is2 = greater is (grind (arith, ints, nat_tests))
  go false true is is2 = less is is2 (grind (arith, ints, nat_tests))
  go false false is is2 = equal is is2 (grind (arith, ints, nat_tests))

-- they differ, or are equal
pub by_difference : {P : Type 0} (x y : ℤ) → (same_integer x y ≡ false → ((unequal equal : Flow) → by_equality x y unequal equal ≡ unequal) → P) →
    (same_integer x y ≡ true → ((unequal equal : Flow) → by_equality x y unequal equal ≡ equal) → P) → P
by_difference {P} x y differ same = by_order x y (λ gt differs. differ differs (λ p q. simp gt)) (λ ge le is. same is (λ p q. simp (ge, le))) (λ ge lt differs. differ differs (λ p q. simp (ge, lt)))

-- a number by a name of its own, in which tests are stuck
pub by_number : {P : Type 0} (n : ℤ) → ((k : ℤ) → n ≡ k → P) → P
by_number n go = go n refl
