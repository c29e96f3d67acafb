-- What is computed of two registers, by their bits.
use Rattle.std.proofs.Common.{◌≡◌, ℕ, zero, suc, ◌+◌, ◌-◌, ◌*◌, ◌/◌, ◌%◌, ◌^◌, ◌<◌, ◌≤◌, Some, Bool, true, false, cond, ◌==◌, refl, sym, ap, ◌∙◌, arith, rules}
use Rattle.std.specs.Prelude.{ℤ, pos, negsuc, not, int_lt, ◌*ℤ◌, FitsSigned, bit_and, bit_or}
use Rattle.std.specs.Int.{w64, cast_signed, cast_unsigned}
use Rattle.std.specs.Int.RustNames.{int_div, int_rem, unsigned_abs}
use Rattle.std.proofs.lemmas.Int.{of_z-to_z, to_z-of_z, unsigned_abs-mul}
use Rattle.std.proofs.lemmas.Nat.{and_le_l, or_lt, mul-le}
use Rattle.std.proofs.Math.IntN.{neg_ℤ}
use Rattle.std.proofs.Math.Facts.{sfits_to_z}
use lib.Signed.{mag_rem}
use Rattle.std.proofs.Math.Nat.{div-le_self}
use Rattle.rv_isa.specs.declared.instr.ROp.TheVariants as r
use Rattle.sil_model.specs.Integers.{wrapped_sum, wrapped_difference, wrapped_product}
use Rattle.sil_micro.specs.declared.op.Arith.{Arith}
use Rattle.sil_micro.specs.declared.op.Arith.TheVariants.{Add, Sub, Mul, MulHigh, And, Or, Div, Rem}
use Rattle.sil_micro.specs.declared.op.Test.{Test}
use Rattle.sil_micro.specs.declared.op.Test.TheVariants.{Eq, Ne, Lt, Ge, Ltu, Geu}
use Rattle.sil_micro.specs.MicroWords.{computed, holds, same_integer, unsigned, high_half, high_product, bits_of_both, bits_of_either, quotient, remainder, is_below_unsigned}
use Rattle.rv_emulate.specs.InstrValues.{r_value, taken, upper_half}
use Rattle.rv_straight.specs.InstrEffects.{r_effect, Gives, Value}
use Rattle.rv_operations.specs.OpCodes.{arith_op, branch_op}
use Rattle.rv_operations.proofs.Doing.{unsigned_small}

-- bits, read as signed
wrapped : (n : ℕ) → n < 2 ^ 64 → (n ≡ cast_unsigned w64 (cast_signed w64 n)) × FitsSigned w64 (cast_signed w64 n)
wrapped n small = (sym (of_z-to_z w64 n small), sfits_to_z (search rules))

-- a computed number has these bits
abbrev Has : ℕ → ℤ → Type 0
Has n z = (n ≡ cast_unsigned w64 z) × FitsSigned w64 z

-- ---- the high half of a product

of_sum : (n : ℕ) → n < 2 ^ 127 → (2 ^ 128 - suc n) / 2 ^ 64 ≡ 2 ^ 64 - suc (n / 2 ^ 64)
of_sum n h = omega arith

high : (z : ℤ) → unsigned_abs z ≤ 2 ^ 126 → Has (upper_half z) (high_half z)
high (pos n) h = (refl, record { sfits = omega arith })
high (negsuc n) h = (of_sum n (omega arith), record { sfits = omega arith })

size_of : (z : ℤ) → FitsSigned w64 z → unsigned_abs z ≤ 2 ^ 63
size_of (pos n) f = omega (arith, f.sfits)
size_of (negsuc n) f = omega (arith, f.sfits)

product_size : (x y : ℤ) → FitsSigned w64 x → FitsSigned w64 y → unsigned_abs (x *ℤ y) ≤ 2 ^ 126
product_size x y f g =
    let all : unsigned_abs x * unsigned_abs y ≤ 2 ^ 63 * 2 ^ 63 = mul-le (unsigned_abs x) (unsigned_abs y) (2 ^ 63) (2 ^ 63) (size_of x f) (size_of y g) in
    omega (arith, unsigned_abs-mul x y)

high_is : (x y : ℤ) → FitsSigned w64 x → FitsSigned w64 y → Has (r_value r.Mulh (cast_unsigned w64 x) (cast_unsigned w64 y)) (high_product x y)
unfolding high_product
high_is x y f g =
    let h = high (x *ℤ y) (product_size x y f g) in
    (ap (λ a. upper_half (a *ℤ cast_signed w64 (cast_unsigned w64 y))) (to_z-of_z w64 x f) ∙ ap (λ b. upper_half (x *ℤ b)) (to_z-of_z w64 y g) ∙ h.0, h.1)

-- ---- quotients

abs_neg : (n : ℕ) → unsigned_abs (neg_ℤ (pos n)) ≡ n
abs_neg zero = refl
abs_neg (suc n) = refl

quotient_size : (x y : ℤ) → unsigned_abs (int_div x y) ≤ unsigned_abs x
quotient_size (pos a) (pos b) = div-le_self a b
quotient_size (pos a) (negsuc b) = omega (arith, abs_neg (a / suc b), div-le_self a (suc b))
quotient_size (negsuc a) (pos b) = omega (arith, abs_neg (suc a / b), div-le_self (suc a) b)
quotient_size (negsuc a) (negsuc b) = div-le_self (suc a) (suc b)

small_of : (z : ℤ) → unsigned_abs z ≤ 2 ^ 63 → cast_unsigned w64 z < 2 ^ 64
small_of (pos n) h = omega arith
small_of (negsuc n) h = omega arith

zero_is : (y : ℤ) → FitsSigned w64 y → (cast_unsigned w64 y == 0) ≡ same_integer y (pos 0)
zero_is (pos n) f = grind arith
zero_is (negsuc n) f = grind (arith, f.sfits)

quotient_is : (x y : ℤ) → FitsSigned w64 x → FitsSigned w64 y → Has (r_value r.Div (cast_unsigned w64 x) (cast_unsigned w64 y)) (quotient x y)
unfolding quotient
quotient_is x y f g = by (same_integer y (pos 0)) (zero_is y g)
  where
    bits : cast_unsigned w64 (int_div (cast_signed w64 (cast_unsigned w64 x)) (cast_signed w64 (cast_unsigned w64 y))) ≡ cast_unsigned w64 (int_div x y)
    bits = ap (λ a. cast_unsigned w64 (int_div a (cast_signed w64 (cast_unsigned w64 y)))) (to_z-of_z w64 x f) ∙ ap (λ b. cast_unsigned w64 (int_div x b)) (to_z-of_z w64 y g)

    small : cast_unsigned w64 (int_div x y) < 2 ^ 64
    small = small_of (int_div x y) (omega (arith, quotient_size x y, size_of x f))

    by : (b : Bool) → (cast_unsigned w64 y == 0) ≡ b → Has (cond (cast_unsigned w64 y == 0) (2 ^ 64 - 1) (cast_unsigned w64 (int_div (cast_signed w64 (cast_unsigned w64 x)) (cast_signed w64 (cast_unsigned w64 y))))) (cond b (negsuc 0) (cast_signed w64 (cast_unsigned w64 (int_div x y))))
    by true e = (ap (λ b. cond b (2 ^ 64 - 1) (cast_unsigned w64 (int_div (cast_signed w64 (cast_unsigned w64 x)) (cast_signed w64 (cast_unsigned w64 y))))) e, record { sfits = omega arith })
    by false e =
        let w = wrapped (cast_unsigned w64 (int_div x y)) small in
        (ap (λ b. cond b (2 ^ 64 - 1) (cast_unsigned w64 (int_div (cast_signed w64 (cast_unsigned w64 x)) (cast_signed w64 (cast_unsigned w64 y))))) e ∙ bits ∙ w.0, w.1)

-- ---- remainders

remainder_size : (x y : ℤ) → FitsSigned w64 x → FitsSigned w64 (int_rem x y)
remainder_size x y f = record { sfits = omega (arith, mag_rem x y, f.sfits) }

remainder_is : (x y : ℤ) → FitsSigned w64 x → FitsSigned w64 y → Has (r_value r.Rem (cast_unsigned w64 x) (cast_unsigned w64 y)) (remainder x y)
unfolding remainder
remainder_is x y f g = by (same_integer y (pos 0)) (zero_is y g)
  where
    bits : cast_unsigned w64 (int_rem (cast_signed w64 (cast_unsigned w64 x)) (cast_signed w64 (cast_unsigned w64 y))) ≡ cast_unsigned w64 (int_rem x y)
    bits = ap (λ a. cast_unsigned w64 (int_rem a (cast_signed w64 (cast_unsigned w64 y)))) (to_z-of_z w64 x f) ∙ ap (λ b. cast_unsigned w64 (int_rem x b)) (to_z-of_z w64 y g)

    by : (b : Bool) → (cast_unsigned w64 y == 0) ≡ b → Has (cond (cast_unsigned w64 y == 0) (cast_unsigned w64 x) (cast_unsigned w64 (int_rem (cast_signed w64 (cast_unsigned w64 x)) (cast_signed w64 (cast_unsigned w64 y))))) (cond b x (int_rem x y))
    by true e = (ap (λ b. cond b (cast_unsigned w64 x) (cast_unsigned w64 (int_rem (cast_signed w64 (cast_unsigned w64 x)) (cast_signed w64 (cast_unsigned w64 y))))) e, f)
    by false e = (ap (λ b. cond b (cast_unsigned w64 x) (cast_unsigned w64 (int_rem (cast_signed w64 (cast_unsigned w64 x)) (cast_signed w64 (cast_unsigned w64 y))))) e ∙ bits, remainder_size x y f)

-- ---- all of them

pub computed_is : (kind : Arith) (x y : ℤ) → FitsSigned w64 x → FitsSigned w64 y → Has (r_value (arith_op kind) (cast_unsigned w64 x) (cast_unsigned w64 y)) (computed kind x y)
unfolding wrapped_sum wrapped_difference wrapped_product bits_of_both bits_of_either
computed_is Add x y f g = wrapped ((cast_unsigned w64 x + cast_unsigned w64 y) % 2 ^ 64) (omega arith)
computed_is Sub x y f g = wrapped ((cast_unsigned w64 x + (2 ^ 64 - cast_unsigned w64 y)) % 2 ^ 64) (omega arith)
computed_is Mul x y f g = wrapped (cast_unsigned w64 x * cast_unsigned w64 y % 2 ^ 64) (omega arith)
computed_is MulHigh x y f g = high_is x y f g
computed_is And x y f g = wrapped (bit_and (cast_unsigned w64 x) (cast_unsigned w64 y)) (omega (arith, and_le_l (cast_unsigned w64 x) (cast_unsigned w64 y), unsigned_small x f))
computed_is Or x y f g = wrapped (bit_or (cast_unsigned w64 x) (cast_unsigned w64 y)) (or_lt 64 (cast_unsigned w64 x) (cast_unsigned w64 y) (unsigned_small x f) (unsigned_small y g))
computed_is Div x y f g = quotient_is x y f g
computed_is Rem x y f g = remainder_is x y f g

-- the instruction gives it
pub gives_computed : (kind : Arith) (v w : ℕ) → v ≡ w → w < 2 ^ 64 → Gives (r_effect (arith_op kind) v) (Value w)
gives_computed Add v w e small = e
gives_computed Sub v w e small = e
gives_computed Mul v w e small = e
gives_computed MulHigh v w e small = (ap Some e, small)
gives_computed And v w e small = e
gives_computed Or v w e small = e
gives_computed Div v w e small = (ap Some e, small)
gives_computed Rem v w e small = (ap Some e, small)

-- ---- tests

pub same_is : (x y : ℤ) → FitsSigned w64 x → FitsSigned w64 y → (cast_unsigned w64 x == cast_unsigned w64 y) ≡ same_integer x y
same_is (pos a) (pos b) f g = grind arith
same_is (pos a) (negsuc b) f g = grind (arith, f.sfits, g.sfits)
same_is (negsuc a) (pos b) f g = grind (arith, f.sfits, g.sfits)
same_is (negsuc a) (negsuc b) f g = grind (arith, f.sfits, g.sfits)

below_is : (x y : ℤ) → FitsSigned w64 x → FitsSigned w64 y → int_lt (cast_signed w64 (cast_unsigned w64 x)) (cast_signed w64 (cast_unsigned w64 y)) ≡ int_lt x y
below_is x y f g = ap (λ a. int_lt a (cast_signed w64 (cast_unsigned w64 y))) (to_z-of_z w64 x f) ∙ ap (λ b. int_lt x b) (to_z-of_z w64 y g)

pub taken_is : (test : Test) (x y : ℤ) → FitsSigned w64 x → FitsSigned w64 y → taken (branch_op test) (cast_unsigned w64 x) (cast_unsigned w64 y) ≡ holds test x y
unfolding is_below_unsigned unsigned
taken_is Eq x y f g = same_is x y f g
taken_is Ne x y f g = ap not (same_is x y f g)
taken_is Lt x y f g = below_is x y f g
taken_is Ge x y f g = ap not (below_is x y f g)
taken_is Ltu x y f g = refl
taken_is Geu x y f g = refl
