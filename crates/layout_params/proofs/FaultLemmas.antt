-- Rules on values.
use Rattle.std.proofs.Common.{◌≡◌, ◌∙◌, ℕ, zero, suc, ◌^◌, ◌<◌, ◌≤◌, Bool, true, false, ◌||◌, ◌==◌, inl, inr, refl, ap, arith}
use Rattle.std.proofs.lemmas.Bool.{cases_lt}
use Rattle.std.proofs.lemmas.Bool.Decides.{nat_tests}
use Rattle.layout_params.specs.Parameters.{is_bit_below}

either_true : (a b : Bool) → b ≡ true → (a || b) ≡ true
either_true true b h = refl
either_true false b h = h

first_true : (a b : Bool) → a ≡ true → (a || b) ≡ true
first_true a b h = rw h refl

top_bit : (w k n : ℕ) → k < suc w → w ≤ k → n ≡ 2 ^ k → (n == 2 ^ w) ≡ true
top_bit w k n lt above e =
    let same : k ≡ w = omega arith in
    let at : n ≡ 2 ^ w = e ∙ ap (λ j. 2 ^ j) same in
    grind (arith, nat_tests, at)

-- a power of two below the width is a bit
pub bit_below : (w k n : ℕ) → k < w → n ≡ 2 ^ k → is_bit_below w n ≡ true
bit_below zero k n lt e = absurd (omega arith)
bit_below (suc w) k n lt e = elim (cases_lt k w) [ inl below ↦ either_true (n == 2 ^ w) (is_bit_below w n) (bit_below w k n below e) | inr above ↦ first_true (n == 2 ^ w) (is_bit_below w n) (top_bit w k n lt above e) ]
