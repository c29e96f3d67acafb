-- Whether a number is a top of the stack, as operations test it.
use Rattle.std.proofs.Common.{◌≡◌, ℕ, ◌-◌, ◌%◌, ◌<◌, ◌≤◌, ◌^◌, Bool, true, false, ◌&&◌, ◌==◌, refl, sym, ap, ◌∙◌, arith}
use Rattle.std.proofs.lemmas.Bool.Decides.{nat_tests}
use Rattle.std.specs.Prelude.{ℤ, pos, negsuc, int_lt, nat_le}
use Rattle.flow_clauses.specs.CallClauses.{is_between}
use Rattle.sil_model.specs.Integers.{◌⊟◌}
use Rattle.sil_micro.specs.MicroWords.{remainder, same_integer}
use Rattle.exp_stack.proofs.Arithmetic.{difference_pos}

module _ (first last d : ℕ) (some : 0 < d) (high : last < 2 ^ 63) where
  abbrev rest : ℤ → ℤ
  rest at = remainder (at ⊟ pos first) (pos d)

  below : (at : ℤ) → int_lt at (pos first) ≡ true → is_between (pos first) (pos last) d at ≡ false
  below (pos a) h = grind (arith, nat_tests, h)
  below (negsuc a) h = refl

  past : (at : ℤ) → int_lt (pos last) at ≡ true → is_between (pos first) (pos last) d at ≡ false
  past (pos a) h = grind (arith, nat_tests, h)
  past (negsuc a) h = refl

  left_over : (a : ℕ) → remainder (pos a) (pos d) ≡ pos (a % d)
  unfolding remainder
  left_over a = grind (arith, nat_tests)

  between : (at : ℤ) → int_lt at (pos first) ≡ false → int_lt (pos last) at ≡ false → is_between (pos first) (pos last) d at ≡ same_integer (rest at) (pos 0)
  between (pos a) low up =
      let a_low : first ≤ a = grind (arith, nat_tests, low) in
      let a_up : a ≤ last = grind (arith, nat_tests, up) in
      let t : nat_le first a ≡ true = grind (arith, nat_tests) in
      let u : nat_le a last ≡ true = grind (arith, nat_tests) in
      let is : rest (pos a) ≡ pos ((a - first) % d) = ap (λ x. remainder x (pos d)) (difference_pos a first a_low (omega arith)) ∙ left_over (a - first) in
      ap (λ b. b && nat_le a last && ((a - first) % d == 0)) t ∙ ap (λ b. b && ((a - first) % d == 0)) u ∙ sym (ap (λ x. same_integer x (pos 0)) is)
  between (negsuc a) low up = absurd (cc)

  -- whether it is below the first, above the last, or between them and so far from the first
  pub by_top : {P : Type 0} (at : ℤ) →
      (int_lt at (pos first) ≡ true → is_between (pos first) (pos last) d at ≡ false → P) →
      (int_lt at (pos first) ≡ false → int_lt (pos last) at ≡ true → is_between (pos first) (pos last) d at ≡ false → P) →
      (int_lt at (pos first) ≡ false → int_lt (pos last) at ≡ false → same_integer (rest at) (pos 0) ≡ false → is_between (pos first) (pos last) d at ≡ false → P) →
      (int_lt at (pos first) ≡ false → int_lt (pos last) at ≡ false → same_integer (rest at) (pos 0) ≡ true → is_between (pos first) (pos last) d at ≡ true → P) → P
  by_top {P} at under over apart top = go (int_lt at (pos first)) refl where
    third : (b : Bool) → int_lt at (pos first) ≡ false → int_lt (pos last) at ≡ false → same_integer (rest at) (pos 0) ≡ b → P
    third true x y z = top x y z (between at x y ∙ z)
    third false x y z = apart x y z (between at x y ∙ z)

    second : (b : Bool) → int_lt at (pos first) ≡ false → int_lt (pos last) at ≡ b → P
    second true x y = over x y (past at y)
    second false x y = third (same_integer (rest at) (pos 0)) x y refl

    go : (b : Bool) → int_lt at (pos first) ≡ b → P
    go true x = under x (below at x)
    go false x = second (int_lt (pos last) at) x refl
