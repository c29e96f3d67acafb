-- The integers of the machine: those that 64 bits hold, with a sign.
use Rattle.std.specs.Prelude.{ℕ, ◌^◌, Option, Some, None, ℤ, pos, negsuc, nat_lt, nat_le, if◌then◌else◌}
use Rattle.std.specs.Int.{w64, int_wrapping_add, int_wrapping_sub, int_wrapping_mul}

-- the sum, the difference and the product modulo 2^64, from -2^63 to 2^63 - 1
unfoldable pub wrapped_sum : ℤ → ℤ → ℤ
wrapped_sum x y = int_wrapping_add w64 x y

unfoldable pub wrapped_difference : ℤ → ℤ → ℤ
wrapped_difference x y = int_wrapping_sub w64 x y

unfoldable pub wrapped_product : ℤ → ℤ → ℤ
wrapped_product x y = int_wrapping_mul w64 x y

infixl 20 ◌⊞◌
abbrev pub ◌⊞◌ : ℤ → ℤ → ℤ
x ⊞ y = wrapped_sum x y

infixl 20 ◌⊟◌
abbrev pub ◌⊟◌ : ℤ → ℤ → ℤ
x ⊟ y = wrapped_difference x y

-- an exact integer, where an A field can hold it
unfoldable pub in_range : ℤ → Option ℤ
in_range (pos n) = if nat_lt n (2 ^ 63) then Some (pos n) else None
in_range (negsuc n) = if nat_lt n (2 ^ 63) then Some (negsuc n) else None

-- an exact integer as a field without a sign holds it, from 0 to the limit
unfoldable pub within : ℕ → ℤ → Option ℕ
within limit (pos n) = if nat_le n limit then Some n else None
within limit (negsuc n) = None
