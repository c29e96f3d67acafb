-- Arithmetic on words.
use Rattle.std.proofs.Common.{◌≡◌, ℕ, suc, ◌+◌, ◌-◌, ◌*◌, ◌<◌, ◌≤◌, ◌^◌, arith}
use Rattle.std.proofs.lemmas.Int.{ints}
use Rattle.std.proofs.Math.Nat.{mul-le-mul_left}
use Rattle.std.specs.Prelude.{pos}
use Rattle.sil_model.specs.Integers.{wrapped_sum, wrapped_difference, wrapped_product}

pub sub_one : (n : ℕ) → n + 1 < 2 ^ 63 → wrapped_difference (pos (suc n)) (pos 1) ≡ pos n
unfolding wrapped_difference
sub_one n h = grind (arith, ints)

pub add_pos : (x y z : ℕ) → x + y ≡ z → z < 2 ^ 63 → wrapped_sum (pos x) (pos y) ≡ pos z
unfolding wrapped_sum
add_pos x y z e h = grind (arith, ints)

pub difference_pos : (x y : ℕ) → y ≤ x → x < 2 ^ 63 → wrapped_difference (pos x) (pos y) ≡ pos (x - y)
unfolding wrapped_difference
difference_pos x y h k = grind (arith, ints)

pub times_size : (c size : ℕ) → c < 2 ^ 32 → size ≤ 64 → wrapped_product (pos c) (pos size) ≡ pos (c * size)
unfolding wrapped_product
times_size c size h k = let small : c * size ≤ c * 64 = mul-le-mul_left c k in grind (arith, ints)
