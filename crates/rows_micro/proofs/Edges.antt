-- What isn't found.
use Rattle.std.proofs.Common.{◌≡◌, ℕ, ◌+◌, ◌*◌, ◌/◌, List, [], ◌∷◌, length, None, refl, arith}
use Rattle.std.proofs.lemmas.Bool.Decides.{nat_tests}
use Rattle.std.specs.Prelude.{pos, slice_get}
use Rattle.sil_model.specs.Integers.{within}

pub past_limit : (limit : ℕ) → within limit (pos (limit + 1)) ≡ None
unfolding within
past_limit limit = grind (arith, nat_tests)

pub past_end : {A : Type 0} (xs : List A) → slice_get xs (length xs) ≡ None
past_end [] = refl
past_end (x ∷ xs) = past_end xs

pub table_of_word : (n : ℕ) → 512 * n / 2 / 256 ≡ n
table_of_word n = omega arith
