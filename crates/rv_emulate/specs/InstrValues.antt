-- What instructions compute, by the RISC-V unprivileged manual (RV64I and M). Registers hold numbers below 2 ^ 64; read as signed, one from 2 ^ 63 on stands for itself less 2 ^ 64.
use Rattle.std.specs.Prelude.{ℕ, ◌+◌, ◌-◌, ◌*◌, ◌/◌, ◌%◌, ◌^◌, ℤ, pos, ◌*ℤ◌, Bool, not, ◌==◌, nat_lt, int_lt, int_div, int_rem, bit_and, bit_or, bit_xor, if◌then◌else◌}
use Rattle.std.specs.Int.{Width, w32, w64, w128, cast_signed, cast_unsigned, int_shr}
use Rattle.rv_isa.specs.declared.instr.ROp.{ROp}
use Rattle.rv_isa.specs.declared.instr.ROp.TheVariants.{Add, Sll, Slt, Sltu, Xor, Srl, Or, And, Sub, Sra, Mul, Mulh, Mulhsu, Mulhu, Div, Divu, Rem, Remu, Addw, Sllw, Srlw, Subw, Sraw, Mulw, Divw, Divuw, Remw, Remuw}
use Rattle.rv_isa.specs.declared.instr.SOp.{SOp}
use Rattle.rv_isa.specs.declared.instr.SOp.TheVariants.{Sb, Sh, Sw, Sd}
use Rattle.rv_isa.specs.declared.instr.BOp.{BOp}
use Rattle.rv_isa.specs.declared.instr.BOp.TheVariants.{Beq, Bne, Blt, Bge, Bltu, Bgeu}

abbrev pub sum64 : ℕ → ℕ → ℕ
sum64 x y = (x + y) % 2 ^ 64

-- k bits, extended by their sign to 64
abbrev pub extended_from : ℕ → ℕ → ℕ
extended_from k n = if nat_lt n (2 ^ (k - 1)) then n else n + (2 ^ 64 - 2 ^ k)

-- 32 bits, extended by their sign to 64
abbrev pub extended : ℕ → ℕ
extended n = if nat_lt n (2 ^ 31) then n else n + (2 ^ 64 - 2 ^ 32)

-- x is below y, both read as signed
abbrev pub is_below : ℕ → ℕ → Bool
is_below x y = int_lt (cast_signed w64 x) (cast_signed w64 y)

-- the signed quotient of numbers of a width, cut toward zero: where the least number is divided by -1 it is that number again
abbrev pub quotient : Width → ℕ → ℕ → ℕ
quotient w x y = cast_unsigned w (int_div (cast_signed w x) (cast_signed w y))

-- the signed remainder, which has the sign of x
abbrev pub remainder : Width → ℕ → ℕ → ℕ
remainder w x y = cast_unsigned w (int_rem (cast_signed w x) (cast_signed w y))

-- the upper 64 bits of a product in two's complement of 128 bits
abbrev pub upper_half : ℤ → ℕ
upper_half z = cast_unsigned w128 z / 2 ^ 64

-- an operation of format R on x and y. Shifts take the lowest six bits of y as their amount, those in W five. W forms take the lower 32 bits of x and y and extend their result.
abbrev pub r_value : ROp → ℕ → ℕ → ℕ
r_value Add x y = sum64 x y
r_value Sub x y = (x + (2 ^ 64 - y)) % 2 ^ 64
r_value Sll x y = x * 2 ^ (y % 64) % 2 ^ 64
r_value Srl x y = x / 2 ^ (y % 64)
r_value Sra x y = cast_unsigned w64 (int_shr (cast_signed w64 x) (y % 64))
r_value Slt x y = if is_below x y then 1 else 0
r_value Sltu x y = if nat_lt x y then 1 else 0
r_value Xor x y = bit_xor x y
r_value Or x y = bit_or x y
r_value And x y = bit_and x y
r_value Mul x y = x * y % 2 ^ 64
r_value Mulh x y = upper_half (cast_signed w64 x *ℤ cast_signed w64 y)
r_value Mulhsu x y = upper_half (cast_signed w64 x *ℤ pos y)
r_value Mulhu x y = x * y / 2 ^ 64
r_value Div x y = if y == 0 then 2 ^ 64 - 1 else quotient w64 x y
r_value Divu x y = if y == 0 then 2 ^ 64 - 1 else x / y
r_value Rem x y = if y == 0 then x else remainder w64 x y
r_value Remu x y = if y == 0 then x else x % y
r_value Addw x y = extended ((x + y) % 2 ^ 32)
r_value Subw x y = extended ((x + (2 ^ 64 - y)) % 2 ^ 32)
r_value Sllw x y = extended (x * 2 ^ (y % 32) % 2 ^ 32)
r_value Srlw x y = extended (x % 2 ^ 32 / 2 ^ (y % 32))
r_value Sraw x y = cast_unsigned w64 (int_shr (cast_signed w32 (x % 2 ^ 32)) (y % 32))
r_value Mulw x y = extended (x * y % 2 ^ 32)
r_value Divw x y = if y % 2 ^ 32 == 0 then 2 ^ 64 - 1 else extended (quotient w32 (x % 2 ^ 32) (y % 2 ^ 32))
r_value Divuw x y = if y % 2 ^ 32 == 0 then 2 ^ 64 - 1 else extended (x % 2 ^ 32 / (y % 2 ^ 32))
r_value Remw x y = if y % 2 ^ 32 == 0 then extended (x % 2 ^ 32) else extended (remainder w32 (x % 2 ^ 32) (y % 2 ^ 32))
r_value Remuw x y = if y % 2 ^ 32 == 0 then extended (x % 2 ^ 32) else extended (x % 2 ^ 32 % (y % 2 ^ 32))

-- whether a branch is taken
abbrev pub taken : BOp → ℕ → ℕ → Bool
taken Beq x y = x == y
taken Bne x y = not (x == y)
taken Blt x y = is_below x y
taken Bge x y = not (is_below x y)
taken Bltu x y = nat_lt x y
taken Bgeu x y = not (nat_lt x y)

-- the bytes that a store writes
abbrev pub s_width : SOp → ℕ
s_width Sb = 1
s_width Sh = 2
s_width Sw = 4
s_width Sd = 8
