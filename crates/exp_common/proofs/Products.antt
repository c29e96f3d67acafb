-- Products that 64 bits hold, and those that they don't hold.
use Rattle.std.proofs.Common.{◌≡◌, ◌∙◌, ap, sym, Bool, true, false, Some, None, refl, arith}
use Rattle.std.proofs.lemmas.Bool.Decides.{nat_tests}
use Rattle.std.proofs.lemmas.Int.{ints, wrapping_mul_is}
use Rattle.std.specs.Prelude.{ℤ, pos, negsuc, int_lt, FitsSigned, ◌*ℤ◌}
use Rattle.std.specs.Int.{w64, int_wrap}
use Rattle.sil_model.specs.Integers.{in_range, wrapped_product}
use Rattle.sil_micro.specs.MicroWords.{same_integer, high_half, high_product}

-- ---- the high half of a product that is held is the sign of the low one

held : (p : ℤ) → int_lt (int_wrap w64 p) (pos 0) ≡ false → same_integer (high_half p) (pos 0) ≡ true → in_range p ≡ Some (int_wrap w64 p)
unfolding in_range int_wrap
held p a b = grind (arith, ints, nat_tests)

held_negative : (p : ℤ) → int_lt (int_wrap w64 p) (pos 0) ≡ true → same_integer (high_half p) (negsuc 0) ≡ true → in_range p ≡ Some (int_wrap w64 p)
unfolding in_range int_wrap
held_negative p a b = grind (arith, ints, nat_tests)

lost : (p : ℤ) → int_lt (int_wrap w64 p) (pos 0) ≡ false → same_integer (high_half p) (pos 0) ≡ false → in_range p ≡ None
unfolding in_range int_wrap
lost p a b = grind (arith, ints, nat_tests)

lost_negative : (p : ℤ) → int_lt (int_wrap w64 p) (pos 0) ≡ true → same_integer (high_half p) (negsuc 0) ≡ false → in_range p ≡ None
unfolding in_range int_wrap
lost_negative p a b = grind (arith, ints, nat_tests)

product_is : (x y : ℤ) → FitsSigned w64 x → FitsSigned w64 y → int_wrap w64 (x *ℤ y) ≡ wrapped_product x y
unfolding wrapped_product
product_is x y f g = sym (wrapping_mul_is w64 x y f g)

-- whether the low half is negative, and whether the high half is the sign
pub by_product : {P : Type 0} (x y : ℤ) → FitsSigned w64 x → FitsSigned w64 y →
    (int_lt (wrapped_product x y) (pos 0) ≡ true → same_integer (high_product x y) (negsuc 0) ≡ true → in_range (x *ℤ y) ≡ Some (wrapped_product x y) → P) →
    (int_lt (wrapped_product x y) (pos 0) ≡ true → same_integer (high_product x y) (negsuc 0) ≡ false → in_range (x *ℤ y) ≡ None → P) →
    (int_lt (wrapped_product x y) (pos 0) ≡ false → same_integer (high_product x y) (pos 0) ≡ false → in_range (x *ℤ y) ≡ None → P) →
    (int_lt (wrapped_product x y) (pos 0) ≡ false → same_integer (high_product x y) (pos 0) ≡ true → in_range (x *ℤ y) ≡ Some (wrapped_product x y) → P) → P
unfolding high_product
by_product {P} x y f g down under over up = go (int_lt (wrapped_product x y) (pos 0)) refl where
  is : int_wrap w64 (x *ℤ y) ≡ wrapped_product x y
  is = product_is x y f g

  below : (b : Bool) → int_lt (wrapped_product x y) (pos 0) ≡ true → same_integer (high_half (x *ℤ y)) (negsuc 0) ≡ b → P
  below true a b = down a b (held_negative (x *ℤ y) (ap (λ w. int_lt w (pos 0)) is ∙ a) b ∙ ap Some is)
  below false a b = under a b (lost_negative (x *ℤ y) (ap (λ w. int_lt w (pos 0)) is ∙ a) b)

  above : (b : Bool) → int_lt (wrapped_product x y) (pos 0) ≡ false → same_integer (high_half (x *ℤ y)) (pos 0) ≡ b → P
  above true a b = up a b (held (x *ℤ y) (ap (λ w. int_lt w (pos 0)) is ∙ a) b ∙ ap Some is)
  above false a b = over a b (lost (x *ℤ y) (ap (λ w. int_lt w (pos 0)) is ∙ a) b)

  go : (a : Bool) → int_lt (wrapped_product x y) (pos 0) ≡ a → P
  go true a = below (same_integer (high_half (x *ℤ y)) (negsuc 0)) a refl
  go false a = above (same_integer (high_half (x *ℤ y)) (pos 0)) a refl
