-- Arithmetic on words, and what tests find of them.
use Rattle.std.proofs.Common.{◌≡◌, ℕ, zero, suc, ◌+◌, ◌*◌, ◌<◌, ◌^◌, Bool, true, false, refl, arith}
use Rattle.std.proofs.lemmas.Bool.Decides.{nat_tests}
use Rattle.std.proofs.lemmas.Int.{ints}
use Rattle.std.specs.Prelude.{ℤ, pos, negsuc, ◌+ℤ◌, FitsSigned}
use Rattle.std.specs.Int.{w64}
use Rattle.std.specs.Ordering.{int_eq}
use Rattle.sil_model.specs.Integers.{wrapped_sum, wrapped_difference, wrapped_product, within}
use Rattle.sil_micro.specs.MicroWords.{same_integer}
use Rattle.tree_clauses.specs.PatternClauses.{is_zero}

pub sub_one : (n : ℕ) → n + 1 < 2 ^ 63 → wrapped_difference (pos (suc n)) (pos 1) ≡ pos n
unfolding wrapped_difference
sub_one n h = grind (arith, ints)

pub add_pos : (x y z : ℕ) → x + y ≡ z → z < 2 ^ 63 → wrapped_sum (pos x) (pos y) ≡ pos z
unfolding wrapped_sum
add_pos x y z e h = grind (arith, ints)

pub times_pos : (x y z : ℕ) → x * y ≡ z → z < 2 ^ 63 → wrapped_product (pos x) (pos y) ≡ pos z
unfolding wrapped_product
times_pos x y z e h = grind (arith, ints)

-- a word is 0, or tests say that it isn't
pub by_zero : {P : Type 0} (n : ℤ) → (n ≡ pos 0 → P) → (is_zero n ≡ false → same_integer n (pos 0) ≡ false → P) → P
by_zero (pos zero) none some = none refl
by_zero (pos (suc x)) none some = some refl (grind (arith, nat_tests))
by_zero (negsuc x) none some = some refl refl

-- tests find two words alike, or both find them different
pub by_likeness : {P : Type 0} (x y : ℤ) → (int_eq x y ≡ true → same_integer x y ≡ true → P) → (int_eq x y ≡ false → same_integer x y ≡ false → P) → P
by_likeness {P} x y alike differ = go (same_integer x y) refl where
  go : (b : Bool) → same_integer x y ≡ b → P
  go true is = alike (grind (arith, ints, nat_tests)) is
  go false is = differ (grind (arith, ints, nat_tests)) is

-- ---- sums that are to fit in a field

-- a sum that is too great, or negative, fits nowhere, whether or not it wraps
pub sum_within : (limit v : ℕ) (by : ℤ) → limit < 2 ^ 48 → v < 2 ^ 48 → FitsSigned w64 by → within limit (wrapped_sum (pos v) by) ≡ within limit (pos v +ℤ by)
unfolding within wrapped_sum
sum_within limit v (pos n) h k fits = grind (arith, ints, nat_tests)
sum_within limit v (negsuc n) h k fits = grind (arith, ints, nat_tests)
