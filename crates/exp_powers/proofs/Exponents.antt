-- Powers of integers, and whether 64 bits hold them.
use Rattle.std.proofs.Common.{◌≡◌, ℕ, zero, suc, ◌+◌, ◌-◌, ◌*◌, ◌%◌, ◌≤◌, ◌^◌, ◌∙◌, Some, None, true, false, refl, sym, ap, subst, arith}
use Rattle.std.proofs.lemmas.Bool.Decides.{nat_tests}
use Rattle.std.proofs.lemmas.Int.{ints, unsigned_abs-mul}
use Rattle.std.proofs.lemmas.Nat.{mul-le}
use Rattle.std.proofs.Math.IntN.{pos-*ℤ-pos}
use Rattle.std.proofs.Math.Nat.{pow-suc, pow-zero}
use Rattle.std.specs.Prelude.{ℤ, pos, negsuc, ◌*ℤ◌, ◌==◌, nat_eq}
use Rattle.std.specs.Int.{int_pow}
use Rattle.std.specs.Int.RustNames.{unsigned_abs}
use Rattle.sil_model.specs.Integers.{in_range}
use Rattle.sil_micro.proofs.Making.{by_test}
use Rattle.tree_clauses.specs.PatternClauses.{power}

-- ---- what is out of range

out_of : (z : ℤ) → in_range z ≡ None → 2 ^ 63 ≤ unsigned_abs z
unfolding in_range
out_of (pos n) is = grind (arith, nat_tests, is)
out_of (negsuc n) is = grind (arith, nat_tests, is)

none_of : (z : ℤ) → 2 ^ 64 ≤ unsigned_abs z → in_range z ≡ None
unfolding in_range
none_of (pos n) h = grind (arith, nat_tests, h)
none_of (negsuc n) h = grind (arith, nat_tests, h)

pub is_of : (z a : ℤ) → in_range z ≡ Some a → z ≡ a
unfolding in_range
is_of (pos n) a is = grind (arith, nat_tests, is)
is_of (negsuc n) a is = grind (arith, nat_tests, is)

-- ---- a power and one more

parity : (n : ℕ) → (n % 2 == 0) ≡ true → (suc n % 2 == 0) ≡ false
parity n e = grind (arith, nat_tests)

other_parity : (n : ℕ) → (n % 2 == 0) ≡ false → (suc n % 2 == 0) ≡ true
other_parity n e = grind (arith, nat_tests)

pub first_power : (x : ℤ) → int_pow x 0 ≡ pos 1
first_power (pos a) = ap pos (pow-zero a)
first_power (negsuc a) = ap pos (pow-zero (suc a))

pub one_held : in_range (pos 1) ≡ Some (pos 1)
unfolding in_range
one_held = refl

pub pow_more : (x : ℤ) (n : ℕ) → int_pow x (suc n) ≡ int_pow x n *ℤ x
pow_more (pos a) n = ap pos (pow-suc a n) ∙ sym (pos-*ℤ-pos (a ^ n) a)
pow_more (negsuc a) n =
    let e = pow-suc (suc a) n in
    by_test (n % 2 == 0) (λ t. let t' = parity n t in simp (t, t') (grind (arith, ints, e))) (λ t. let t' = other_parity n t in simp (t, t') (grind (arith, ints, e)))

-- ---- powers of two and more, or of minus two and less

least_power : (x : ℤ) (n : ℕ) → 2 ≤ unsigned_abs x → 2 ^ n ≤ unsigned_abs (int_pow x n)
least_power x zero h = let e = ap unsigned_abs (first_power x) in omega (arith, e)
least_power x (suc n) h =
    let one = least_power x n h in
    let low = mul-le (2 ^ n) 2 (unsigned_abs (int_pow x n)) (unsigned_abs x) one h in
    let e : unsigned_abs (int_pow x (suc n)) ≡ unsigned_abs (int_pow x n) * unsigned_abs x = ap unsigned_abs (pow_more x n) ∙ unsigned_abs-mul (int_pow x n) x in
    let two = pow-suc 2 n in
    omega (arith, low, e, two)

stays_out : (x : ℤ) (n : ℕ) → 2 ≤ unsigned_abs x → in_range (int_pow x n) ≡ None → in_range (int_pow x (suc n)) ≡ None
stays_out x n h out =
    let far = out_of (int_pow x n) out in
    let low = mul-le (2 ^ 63) 2 (unsigned_abs (int_pow x n)) (unsigned_abs x) far h in
    let e : unsigned_abs (int_pow x (suc n)) ≡ unsigned_abs (int_pow x n) * unsigned_abs x = ap unsigned_abs (pow_more x n) ∙ unsigned_abs-mul (int_pow x n) x in
    none_of (int_pow x (suc n)) (omega (arith, low, e))

-- a power that is out of range stays so
pub lost_power : (x : ℤ) (i left total : ℕ) → i + left ≡ total → 2 ≤ unsigned_abs x → in_range (int_pow x i) ≡ None → in_range (int_pow x total) ≡ None
lost_power x i zero total is h out = let e : i ≡ total = omega (arith, is) in subst (λ n. in_range (int_pow x n) ≡ None) e out
lost_power x i (suc left) total is h out = lost_power x (suc i) left total (omega (arith, is)) h (stays_out x i h out)

pub great_power : (x : ℤ) (n : ℕ) → 2 ≤ unsigned_abs x → 64 ≤ n → in_range (int_pow x n) ≡ None
great_power x n h le = go (n - 64) (omega (arith, le)) where
  go : (left : ℕ) → 64 + left ≡ n → in_range (int_pow x n) ≡ None
  go left is = lost_power x 64 left n is h (none_of (int_pow x 64) (least_power x 64 h))

-- ---- the clause's power

pub large_power : (x : ℤ) (n : ℕ) → 2 ≤ unsigned_abs x → power x (pos n) ≡ in_range (int_pow x n)
unfolding power
large_power (pos zero) n h = absurd (omega (arith, h))
large_power (pos (suc a)) zero h = sym (ap in_range (first_power (pos (suc a))) ∙ one_held)
large_power (negsuc a) zero h = sym (ap in_range (first_power (negsuc a)) ∙ one_held)
large_power (pos (suc a)) (suc n) h = refl
large_power (negsuc a) (suc n) h = refl

zero_to : (n : ℕ) → 0 ^ suc n ≡ 0
zero_to n = pow-suc 0 n ∙ omega arith

one_to : (n : ℕ) → 1 ^ n ≡ 1
one_to zero = refl
one_to (suc n) = pow-suc 1 n ∙ omega (arith, one_to n)

pub power_of_zero : (n : ℕ) → power (pos 0) (pos (suc n)) ≡ Some (pos 0)
unfolding power in_range
power_of_zero n = ap (λ z. in_range (pos z)) (zero_to n)

pub power_of_one : (n : ℕ) → power (pos 1) (pos n) ≡ Some (pos 1)
unfolding power in_range
power_of_one zero = refl
power_of_one (suc n) = ap (λ z. in_range (pos z)) (one_to (suc n))

pub even_power : (n : ℕ) → nat_eq (n % 2) 0 ≡ true → power (negsuc 0) (pos n) ≡ Some (pos 1)
unfolding power in_range
even_power zero e = refl
even_power (suc n) e = (let one = one_to (suc n) in simp (e, one) refl)

pub odd_power : (n : ℕ) → nat_eq (n % 2) 0 ≡ false → power (negsuc 0) (pos n) ≡ Some (negsuc 0)
unfolding power in_range
odd_power zero e = absurd (cc)
odd_power (suc n) e = (let one = one_to (suc n) in simp (e, one) refl)
