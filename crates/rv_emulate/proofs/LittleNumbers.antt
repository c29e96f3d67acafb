-- std's reading of eight bytes is `number`.
use Rattle.std.proofs.Common.{◌≡◌, ℕ, ◌<◌, ◌≤◌, List, [], ◌∷◌, length, get_or, arith}
use Rattle.std.specs.Int.{w64, from_le_bytes}
use Rattle.sil_base.specs.Bytes.{number}

pub number_8 : (s : List ℕ) → 8 ≤ length s → length s < 9 → from_le_bytes w64 (get_or s 0 0 ∷ get_or s 1 0 ∷ get_or s 2 0 ∷ get_or s 3 0 ∷ get_or s 4 0 ∷ get_or s 5 0 ∷ get_or s 6 0 ∷ get_or s 7 0 ∷ []) ≡ number s
number_8 (a ∷ b ∷ c ∷ d ∷ e ∷ f ∷ g ∷ h ∷ []) p q = omega arith
number_8 _ p q = absurd (omega arith)
