-- Arithmetic on words.
use Rattle.std.proofs.Common.{◌≡◌, ℕ, suc, ◌+◌, ◌*◌, ◌/◌, ◌%◌, ◌<◌, ◌^◌, arith}
use Rattle.std.proofs.lemmas.Int.{ints}
use Rattle.std.specs.Prelude.{pos}
use Rattle.sil_model.specs.Integers.{wrapped_sum, wrapped_difference, wrapped_product}
use Rattle.sil_micro.specs.MicroWords.{quotient, remainder, low_byte, unsigned}

pub sub_one : (n : ℕ) → n + 1 < 2 ^ 63 → wrapped_difference (pos (suc n)) (pos 1) ≡ pos n
unfolding wrapped_difference
sub_one n h = grind (arith, ints)

pub add_pos : (x y z : ℕ) → x + y ≡ z → z < 2 ^ 63 → wrapped_sum (pos x) (pos y) ≡ pos z
unfolding wrapped_sum
add_pos x y z e h = grind (arith, ints)

pub times_pos : (x y z : ℕ) → x * y ≡ z → z < 2 ^ 63 → wrapped_product (pos x) (pos y) ≡ pos z
unfolding wrapped_product
times_pos x y z e h = grind (arith, ints)

pub quotient_pos : (x y : ℕ) → 0 < y → x < 2 ^ 63 → quotient (pos x) (pos y) ≡ pos (x / y)
unfolding quotient
quotient_pos x y h k = (let f : x / y < 2 ^ 63 = omega arith in grind (arith, ints))

pub remainder_pos : (x y : ℕ) → 0 < y → remainder (pos x) (pos y) ≡ pos (x % y)
unfolding remainder
remainder_pos x y h = grind (arith, ints)

pub low_of_byte : (c : ℕ) → c < 256 → low_byte (pos c) ≡ c
unfolding low_byte unsigned
low_of_byte c h = grind (arith, ints)
