-- Lengths that are written, by sums and differences that wrap.
use Rattle.std.proofs.Common.{◌≡◌, ℕ, ◌<◌, ◌^◌, arith}
use Rattle.std.proofs.lemmas.Bool.Decides.{nat_tests}
use Rattle.std.proofs.lemmas.Int.{ints}
use Rattle.std.specs.Prelude.{ℤ, pos, FitsSigned, ◌+ℤ◌, ◌-ℤ◌}
use Rattle.std.specs.Int.{w64}
use Rattle.sil_model.specs.Integers.{◌⊞◌, ◌⊟◌, within, wrapped_sum, wrapped_difference}

-- a sum that wraps fits in a V field no more than the sum itself, and so does a difference
pub within_sum : (limit v : ℕ) (n : ℤ) → limit < 2 ^ 48 → v < 2 ^ 48 → FitsSigned w64 n → within limit (pos v ⊞ n) ≡ within limit (pos v +ℤ n)
unfolding within wrapped_sum
within_sum limit v n l h f = grind (arith, ints, nat_tests)

pub within_difference : (limit v : ℕ) (n : ℤ) → limit < 2 ^ 48 → v < 2 ^ 48 → FitsSigned w64 n → within limit (pos v ⊟ n) ≡ within limit (pos v -ℤ n)
unfolding within wrapped_difference
within_difference limit v n l h f = grind (arith, ints, nat_tests)
