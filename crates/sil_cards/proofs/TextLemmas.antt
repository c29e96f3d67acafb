-- The first place of a text that passes a test.
use Rattle.std.proofs.Common.{◌≡◌, ℕ, ◌+◌, ◌-◌, ◌<◌, ◌≤◌, Bool, true, false, cond, not, suc, eqb, List, [], ◌∷◌, length, take, drop, Some, None, refl, ap, arith}
use Rattle.std.specs.Prelude.{position, unwrap_or, nat_lt}
use Rattle.std.specs.List.{position_or_len}
use Rattle.std.proofs.lemmas.Bool.Decides.{nat_tests}
use Rattle.std.proofs.lemmas.List.{take_all, length-drop}
use Rattle.std.proofs.lemmas.List.Sums.{prefix_len-le-length}

or_len : (b : Bool) (n m : ℕ) → n ≤ m → (b ≡ false → m ≤ n) → unwrap_or (cond b (Some n) None) m ≡ n
or_len true n m le h = refl
or_len false n m le h = omega (arith, h refl)

pub first_or_len : (p : ℕ → Bool) (xs : List ℕ) → unwrap_or (position p xs) (length xs) ≡ position_or_len p xs
first_or_len p xs =
    or_len (nat_lt (position_or_len p xs) (length xs)) (position_or_len p xs) (length xs) (prefix_len-le-length (λ x. not (p x)) xs) (λ h. grind (arith, nat_tests))

pub first_within : (p : ℕ → Bool) (xs : List ℕ) → unwrap_or (position p xs) (length xs) ≤ length xs
first_within p xs = rw (first_or_len p xs) (prefix_len-le-length (λ x. not (p x)) xs)
