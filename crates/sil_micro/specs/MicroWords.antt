-- What operations compute on registers, which hold integers of 64 bits with a sign.
use Rattle.std.specs.Prelude.{ℕ, ◌/◌, ◌%◌, ◌^◌, ℤ, pos, negsuc, Bool, false, nat_eq, nat_lt, not, int_lt, ◌*ℤ◌, if◌then◌else◌}
use Rattle.std.specs.Int.{w64, cast_unsigned, int_bit_and, int_bit_or, int_wrapping_div}
use Rattle.std.specs.Int.RustNames.{int_rem}
use Rattle.sil_model.specs.Integers.{◌⊞◌, ◌⊟◌, wrapped_product}
use Rattle.sil_micro.specs.declared.op.Arith.{Arith}
use Rattle.sil_micro.specs.declared.op.Arith.TheVariants.{Add, Sub, Mul, MulHigh, And, Or, Div, Rem}
use Rattle.sil_micro.specs.declared.op.Test.{Test}
use Rattle.sil_micro.specs.declared.op.Test.TheVariants.{Eq, Ne, Lt, Ge, Ltu, Geu}

-- the same bits without a sign
unfoldable pub unsigned : ℤ → ℕ
unsigned x = cast_unsigned w64 x

-- the lowest eight bits
unfoldable pub low_byte : ℤ → ℕ
low_byte x = unsigned x % 2 ^ 8

-- the quotient by 2^64, rounded down
abbrev pub high_half : ℤ → ℤ
high_half (pos n) = pos (n / 2 ^ 64)
high_half (negsuc n) = negsuc (n / 2 ^ 64)

unfoldable pub high_product : ℤ → ℤ → ℤ
high_product x y = high_half (x *ℤ y)

unfoldable pub bits_of_both : ℤ → ℤ → ℤ
bits_of_both x y = int_bit_and w64 x y

unfoldable pub bits_of_either : ℤ → ℤ → ℤ
bits_of_either x y = int_bit_or w64 x y

abbrev pub same_integer : ℤ → ℤ → Bool
same_integer (pos x) (pos y) = nat_eq x y
same_integer (negsuc x) (negsuc y) = nat_eq x y
same_integer (pos x) (negsuc y) = false
same_integer (negsuc x) (pos y) = false

-- cut towards zero; -1 by 0, and -2^63 where the quotient is 2^63 (RISC-V, chapter M)
unfoldable pub quotient : ℤ → ℤ → ℤ
quotient x y = if same_integer y (pos 0) then negsuc 0 else int_wrapping_div w64 x y

-- the sign is the dividend's; by 0 it is the dividend
unfoldable pub remainder : ℤ → ℤ → ℤ
remainder x y = if same_integer y (pos 0) then x else int_rem x y

unfoldable pub is_below_unsigned : ℤ → ℤ → Bool
is_below_unsigned x y = nat_lt (unsigned x) (unsigned y)

abbrev pub computed : Arith → ℤ → ℤ → ℤ
computed Add x y = x ⊞ y
computed Sub x y = x ⊟ y
computed Mul x y = wrapped_product x y
computed MulHigh x y = high_product x y
computed And x y = bits_of_both x y
computed Or x y = bits_of_either x y
computed Div x y = quotient x y
computed Rem x y = remainder x y

abbrev pub holds : Test → ℤ → ℤ → Bool
holds Eq x y = same_integer x y
holds Ne x y = not (same_integer x y)
holds Lt x y = int_lt x y
holds Ge x y = not (int_lt x y)
holds Ltu x y = is_below_unsigned x y
holds Geu x y = not (is_below_unsigned x y)
