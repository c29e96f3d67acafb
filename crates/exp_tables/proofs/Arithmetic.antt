-- Arithmetic on words.
use Rattle.std.proofs.Common.{◌≡◌, ℕ, ◌+◌, ◌/◌, ◌%◌, ◌<◌, ◌^◌, arith}
use Rattle.std.proofs.lemmas.Int.{ints}
use Rattle.std.specs.Prelude.{pos, ◌-ℤ◌}
use Rattle.sil_model.specs.Integers.{wrapped_sum, wrapped_difference}
use Rattle.sil_micro.specs.MicroWords.{quotient, remainder}

pub add_pos : (x y z : ℕ) → x + y ≡ z → z < 2 ^ 63 → wrapped_sum (pos x) (pos y) ≡ pos z
unfolding wrapped_sum
add_pos x y z e h = grind (arith, ints)

pub sub_pos : (x y z : ℕ) → z + y ≡ x → x < 2 ^ 63 → wrapped_difference (pos x) (pos y) ≡ pos z
unfolding wrapped_difference
sub_pos x y z e h = grind (arith, ints)

pub less_pos : (x y z : ℕ) → z + y ≡ x → pos x -ℤ pos y ≡ pos z
less_pos x y z e = grind (arith, ints)

pub quotient_pos : (x y z : ℕ) → 0 < y → x < 2 ^ 63 → x / y ≡ z → quotient (pos x) (pos y) ≡ pos z
unfolding quotient
quotient_pos x y z h k e = (let f : x / y < 2 ^ 63 = omega arith in grind (arith, ints))

pub remainder_pos : (x y z : ℕ) → 0 < y → x % y ≡ z → remainder (pos x) (pos y) ≡ pos z
unfolding remainder
remainder_pos x y z h e = grind (arith, ints)
