-- Powers by great numbers.
use Rattle.std.specs.Prelude.{ℕ, ℤ, Bool, zero, suc, pos, negsuc, neg_ℤ, true, false, Option, Some, None, FitsSigned, nat_lt, ◌^◌, ◌%◌, ◌<◌, ◌≤◌, ◌==◌, if◌then◌else◌}
use Rattle.std.specs.Int.{int_pow, w64}
use Rattle.std.specs.Option.{SomeIff}
use Rattle.std.proofs.Common.{◌≡◌, refl, ap, ap₂, sym, ◌∙◌, arith, le_trans, pow_mono, pow-suc, mul-zero}
use Rattle.std.proofs.Math.Nat.{mul-one, pow-le-pow_left}
use Rattle.std.proofs.lemmas.Bool.Decides.{nat_tests}
use Rattle.std.proofs.lemmas.Int.{ints}
use Rattle.sil_model.specs.Integers.{in_range}

zero_power : (n : ℕ) → 0 < n → 0 ^ n ≡ 0
zero_power zero h = absurd (omega (arith, h))
zero_power (suc n) h = pow-suc 0 n ∙ mul-zero (0 ^ n)

one_power : (n : ℕ) → 1 ^ n ≡ 1
one_power zero = refl
one_power (suc n) = pow-suc 1 n ∙ mul-one (1 ^ n) ∙ one_power n

great : (x n : ℕ) → 64 ≤ n → 2 ^ 64 ≤ suc (suc x) ^ n
great x n h =
    let two : 2 ≤ suc (suc x) = omega arith in
    le_trans (pow_mono h) (pow-le-pow_left two n)

-- 64 bits hold no great number, and none whose negative is great
too_great : (n : ℕ) → 2 ^ 64 ≤ n → in_range (pos n) ≡ None
unfolding in_range
too_great n h = grind (arith, nat_tests, h)

too_small : (n : ℕ) → 2 ^ 64 ≤ n → in_range (neg_ℤ (pos n)) ≡ None
unfolding in_range
too_small zero h = absurd (omega (arith, h))
too_small (suc n) h = grind (arith, nat_tests, h)

neither : (even : Bool) (n : ℕ) → 2 ^ 64 ≤ n → in_range (if even then pos n else neg_ℤ (pos n)) ≡ None
neither true n h = too_great n h
neither false n h = too_small n h

-- by great numbers that are both even, or both odd, the powers are the same, or 64 bits hold neither
pub great_power : (x : ℤ) (n k : ℕ) → 64 ≤ n → 64 ≤ k → n % 2 ≡ k % 2 → in_range (int_pow x n) ≡ in_range (int_pow x k)
great_power (pos zero) n k h l p = ap (λ z. in_range (pos z)) (zero_power n (omega (arith, h)) ∙ sym (zero_power k (omega (arith, l))))
great_power (pos (suc zero)) n k h l p = ap (λ z. in_range (pos z)) (one_power n ∙ sym (one_power k))
great_power (pos (suc (suc x))) n k h l p = too_great _ (great x n h) ∙ sym (too_great _ (great x k l))
great_power (negsuc zero) n k h l p = ap₂ (λ (r z : ℕ). in_range (if r == 0 then pos z else neg_ℤ (pos z))) p (one_power n ∙ sym (one_power k))
great_power (negsuc (suc x)) n k h l p = neither (n % 2 == 0) (suc (suc x) ^ n) (great x n h) ∙ sym (neither (k % 2 == 0) (suc (suc x) ^ k) (great x k l))

-- what is there where 64 bits hold an integer
out_of_range : (z : ℤ) → ¬ (FitsSigned w64 z) → in_range z ≡ None
unfolding in_range
out_of_range (pos n) outside = by (nat_lt n (2 ^ 63)) refl
  where
    by : (b : Bool) → nat_lt n (2 ^ 63) ≡ b → (if b then Some (pos n) else None) ≡ None
    by true is = absurd (outside (grind (arith, nat_tests, is)))
    by false is = refl
out_of_range (negsuc n) outside = by (nat_lt n (2 ^ 63)) refl
  where
    by : (b : Bool) → nat_lt n (2 ^ 63) ≡ b → (if b then Some (negsuc n) else None) ≡ None
    by true is = absurd (outside (grind (arith, nat_tests, is)))
    by false is = refl

in_its_range : (z : ℤ) → FitsSigned w64 z → in_range z ≡ Some z
unfolding in_range
in_its_range (pos n) fits = grind (arith, ints, nat_tests, fits)
in_its_range (negsuc n) fits = grind (arith, ints, nat_tests, fits)

pub range_of : (o : Option ℤ) (z : ℤ) → SomeIff o (FitsSigned w64 z) z → o ≡ in_range z
range_of None z outside = sym (out_of_range z outside)
range_of (Some x) z inside = ap Some inside.1 ∙ sym (in_its_range z inside.0)
