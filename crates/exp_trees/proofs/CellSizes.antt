-- The sizes of several cells, and one more, as registers compute them.
use Rattle.std.proofs.Common.{◌≡◌, ℕ, ◌+◌, ◌*◌, ◌<◌, ◌≤◌, ◌^◌, arith}
use Rattle.std.proofs.lemmas.Int.{ints}
use Rattle.std.specs.Prelude.{pos}
use Rattle.sil_model.specs.Integers.{◌⊞◌, wrapped_sum}

pub two_cells : (size : ℕ) → size ≤ 64 → pos size ⊞ pos size ≡ pos (2 * size)
unfolding wrapped_sum
two_cells size h = grind (arith, ints)

pub three_cells : (size : ℕ) → size ≤ 64 → pos (2 * size) ⊞ pos size ≡ pos (3 * size)
unfolding wrapped_sum
three_cells size h = grind (arith, ints)

pub four_cells : (size : ℕ) → size ≤ 64 → pos (2 * size) ⊞ pos (2 * size) ≡ pos (4 * size)
unfolding wrapped_sum
four_cells size h = grind (arith, ints)

pub next_cell : (size : ℕ) → size ≤ 64 → pos (3 * size) ⊞ pos size ≡ pos (4 * size)
unfolding wrapped_sum
next_cell size h = grind (arith, ints)

pub one_more : (n : ℕ) → n < 2 ^ 48 → pos n ⊞ pos 1 ≡ pos (n + 1)
unfolding wrapped_sum
one_more n h = grind (arith, ints)
