-- Flags in the words of registers.
use Rattle.std.specs.Prelude.{pos, bit_and}
use Rattle.std.proofs.Common.{◌≡◌, ℕ, ◌<◌, ◌^◌, arith}
use Rattle.std.proofs.lemmas.Int.{ints}
use Rattle.std.proofs.lemmas.Nat.{and_le_l}
use Rattle.sil_micro.specs.MicroWords.{bits_of_both}

pub both_flags : (f flags : ℕ) → f < 2 ^ 32 → flags < 2 ^ 32 → bits_of_both (pos f) (pos flags) ≡ pos (bit_and f flags)
unfolding bits_of_both
both_flags f flags h k = grind (arith, ints, and_le_l)
