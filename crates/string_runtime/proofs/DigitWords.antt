-- Digits in words: a number is held as its negative.
use Rattle.std.proofs.Common.{◌≡◌, ℕ, zero, suc, ◌+◌, ◌-◌, ◌*◌, ◌≤◌, ◌<◌, ◌^◌, true, false, refl, arith}
use Rattle.std.proofs.lemmas.Bool.Decides.{nat_tests}
use Rattle.std.proofs.lemmas.Int.{ints}
use Rattle.std.specs.Prelude.{pos, negsuc, neg_ℤ, int_lt, nat_lt}
use Rattle.sil_model.specs.Integers.{wrapped_difference, wrapped_product}
use Rattle.sil_micro.specs.MicroWords.{is_below_unsigned, unsigned}
use Rattle.string_clauses.specs.StringClauses.{is_digit}

pub digit_yes : (c : ℕ) → c < 256 → is_digit c ≡ true → is_below_unsigned (wrapped_difference (pos c) (pos 48)) (pos 10) ≡ true
unfolding is_below_unsigned unsigned wrapped_difference
digit_yes c h is = grind (arith, ints, nat_tests)

pub digit_no : (c : ℕ) → c < 256 → is_digit c ≡ false → is_below_unsigned (wrapped_difference (pos c) (pos 48)) (pos 10) ≡ false
unfolding is_below_unsigned unsigned wrapped_difference
digit_no c h is = grind (arith, ints, nat_tests)

pub digit_value : (c : ℕ) → c < 256 → is_digit c ≡ true → wrapped_difference (pos c) (pos 48) ≡ pos (c - 48)
unfolding wrapped_difference
digit_value c h is = grind (arith, ints, nat_tests)

pub digit_small : (c : ℕ) → is_digit c ≡ true → c - 48 ≤ 9
digit_small c is = grind (arith, nat_tests)

pub many_test : (n : ℕ) → int_lt (neg_ℤ (pos n)) (negsuc 922337203685477579) ≡ nat_lt 922337203685477580 n
many_test zero = refl
many_test (suc n) = grind (arith, nat_tests)

pub ten_times : (n : ℕ) → n ≤ 922337203685477580 → wrapped_product (neg_ℤ (pos n)) (pos 10) ≡ neg_ℤ (pos (10 * n))
unfolding wrapped_product
ten_times zero h = refl
ten_times (suc n) h = grind (arith, ints)

pub room_yes : (n v limit : ℕ) → v ≤ 9 → limit ≤ 2 ^ 63 → 10 * n + v ≤ limit → is_below_unsigned (wrapped_difference (neg_ℤ (pos (10 * n))) (neg_ℤ (pos limit))) (pos v) ≡ false
unfolding is_below_unsigned unsigned wrapped_difference
room_yes n v limit small most fits = grind (arith, ints, nat_tests)

pub room_no : (n v limit : ℕ) → v ≤ 9 → limit ≤ 2 ^ 63 → 10 * n ≤ limit → limit < 10 * n + v → is_below_unsigned (wrapped_difference (neg_ℤ (pos (10 * n))) (neg_ℤ (pos limit))) (pos v) ≡ true
unfolding is_below_unsigned unsigned wrapped_difference
room_no n v limit small most less over = grind (arith, ints, nat_tests)

pub digit_more : (n v : ℕ) → 10 * n + v ≤ 2 ^ 63 → v ≤ 9 → wrapped_difference (neg_ℤ (pos (10 * n))) (pos v) ≡ neg_ℤ (pos (10 * n + v))
unfolding wrapped_difference
digit_more n v h small = grind (arith, ints)

pub turned : (n : ℕ) → n < 2 ^ 63 → wrapped_difference (pos 0) (neg_ℤ (pos n)) ≡ pos n
unfolding wrapped_difference
turned n h = grind (arith, ints)
