-- Quotients that 64 bits hold, and those that they don't hold.
use Rattle.std.proofs.Common.{◌≡◌, zero, suc, ◌^◌, ◌-◌, Bool, true, false, Some, None, refl, arith}
use Rattle.std.proofs.lemmas.Bool.Decides.{nat_tests}
use Rattle.std.proofs.lemmas.Int.{ints, to_z-of_z}
use Rattle.std.specs.Prelude.{ℤ, pos, negsuc, int_div, FitsSigned}
use Rattle.std.specs.Int.{w64}
use Rattle.sil_model.specs.Integers.{in_range}
use Rattle.choice_clauses.specs.IntegerClauses.{quotient as exact_quotient}
use Rattle.sil_micro.specs.MicroWords.{same_integer, quotient}

-- ---- a quotient is held unless it is by 0, or of the least of all by -1

none_by_zero : (x y : ℤ) → same_integer y (pos 0) ≡ true → exact_quotient x y ≡ None
none_by_zero x (pos zero) e = refl
none_by_zero x (pos (suc y)) e = absurd (grind (arith, nat_tests))
none_by_zero x (negsuc y) e = absurd (grind (arith, nat_tests))

too_great : (x y : ℤ) → same_integer y (negsuc 0) ≡ true → same_integer x (negsuc (2 ^ 63 - 1)) ≡ true → exact_quotient x y ≡ None
unfolding in_range
too_great x y e f = grind (arith, ints, nat_tests)

by_another : (x y : ℤ) → FitsSigned w64 x → same_integer y (pos 0) ≡ false → same_integer y (negsuc 0) ≡ false → FitsSigned w64 (int_div x y)
by_another x y f a b = grind (arith, ints, nat_tests)

of_another : (x y : ℤ) → FitsSigned w64 x → same_integer y (negsuc 0) ≡ true → same_integer x (negsuc (2 ^ 63 - 1)) ≡ false → FitsSigned w64 (int_div x y)
of_another x y f a b = grind (arith, ints, nat_tests)

is_quotient : (x y : ℤ) → same_integer y (pos 0) ≡ false → FitsSigned w64 (int_div x y) → exact_quotient x y ≡ Some (quotient x y)
unfolding in_range quotient
is_quotient x y a h = simp (a, to_z-of_z) (grind (arith, ints, nat_tests))

-- whether it is by 0, or by -1, and then of the least of all
pub by_quotient : {P : Type 0} (x y : ℤ) → FitsSigned w64 x → (same_integer y (pos 0) ≡ true → exact_quotient x y ≡ None → P) →
    (same_integer y (pos 0) ≡ false → same_integer y (negsuc 0) ≡ true → same_integer x (negsuc (2 ^ 63 - 1)) ≡ true → exact_quotient x y ≡ None → P) →
    (same_integer y (pos 0) ≡ false → same_integer y (negsuc 0) ≡ true → same_integer x (negsuc (2 ^ 63 - 1)) ≡ false → exact_quotient x y ≡ Some (quotient x y) → P) →
    (same_integer y (pos 0) ≡ false → same_integer y (negsuc 0) ≡ false → exact_quotient x y ≡ Some (quotient x y) → P) → P
by_quotient {P} x y f nothing great negated other = go (same_integer y (pos 0)) (same_integer y (negsuc 0)) (same_integer x (negsuc (2 ^ 63 - 1))) refl refl refl where
  go : (a b c : Bool) → same_integer y (pos 0) ≡ a → same_integer y (negsuc 0) ≡ b → same_integer x (negsuc (2 ^ 63 - 1)) ≡ c → P
  go true b c e i j = nothing e (none_by_zero x y e)
  go false true true e i j = great e i j (too_great x y i j)
  go false true false e i j = negated e i j (is_quotient x y e (of_another x y f i j))
  go false false c e i j = other e i (is_quotient x y e (by_another x y f e i))
