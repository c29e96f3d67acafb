-- Arithmetic on the words of registers.
use Rattle.std.proofs.Common.{◌≡◌, ℕ, ◌<◌, ◌^◌, ◌≤◌, ◌-◌, arith}
use Rattle.std.proofs.lemmas.Bool.Decides.{nat_tests}
use Rattle.std.proofs.lemmas.Int.{ints}
use Rattle.std.proofs.lemmas.Nat.{and_le_l, or_of_32}
use Rattle.std.specs.Prelude.{ℤ, pos, FitsSigned, ◌+ℤ◌, bit_and, bit_or}
use Rattle.std.specs.Int.{w64}
use Rattle.descr_clauses.specs.DescriptorClauses.{bits_without}
use Rattle.sil_model.specs.Integers.{◌⊞◌, ◌⊟◌, within, wrapped_sum, wrapped_difference}
use Rattle.sil_micro.specs.MicroWords.{bits_of_both, bits_of_either}
use Rattle.exp_common.proofs.FlagBits.{both_flags}

-- a sum that wraps fits in a V field no more than the sum itself
pub within_sum : (limit v : ℕ) (n : ℤ) → limit < 2 ^ 48 → v < 2 ^ 48 → FitsSigned w64 n → within limit (pos v ⊞ n) ≡ within limit (pos v +ℤ n)
unfolding within wrapped_sum
within_sum limit v n l h f = grind (arith, ints, nat_tests)

pub with_flags : (f flags : ℕ) → f < 2 ^ 32 → flags < 2 ^ 32 → bits_of_either (pos f) (pos flags) ≡ pos (bit_or f flags)
unfolding bits_of_either
with_flags f flags h k = let small = or_of_32 f flags h k in grind (arith, ints, small)

small_difference : (x y : ℕ) → x < 2 ^ 32 → y ≤ x → pos x ⊟ pos y ≡ pos (x - y)
unfolding wrapped_difference
small_difference x y h le = grind (arith, ints)

pub without_flags : (f flags : ℕ) → f < 2 ^ 32 → flags < 2 ^ 32 → pos f ⊟ bits_of_both (pos f) (pos flags) ≡ pos (bits_without f flags)
without_flags f flags h k = let both = both_flags f flags h k in rw both (small_difference f (bit_and f flags) h (and_le_l f flags))
