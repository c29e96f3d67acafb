-- The instructions that make a number in a register.
use Rattle.std.specs.Prelude.{ℕ, ◌+◌, ◌/◌, ◌%◌, ◌^◌, ℤ, pos, List, [], ◌∷◌, Bool, nat_lt, if◌then◌else◌}
use Rattle.rv_isa.specs.declared.instr.IOp.TheVariants.{Addi, Addiw, Slli}
use Rattle.rv_isa.specs.declared.instr.UOp.TheVariants.{Lui}
use Rattle.rv_isa.specs.declared.instr.Instr.{Instr}
use Rattle.rv_isa.specs.declared.instr.Instr.TheVariants.{I, U}
use Rattle.rv_isa.specs.Decoded.{signed}

-- the lower 12 bits of a number with their sign, and the upper ones, one more where the lower part is negative
abbrev pub upper_of : ℕ → ℕ
upper_of n = (n + 2 ^ 11) / 2 ^ 12

abbrev pub lower_of : ℕ → ℤ
lower_of n = signed 11 (n % 2 ^ 12)

-- a number from -2^11 to 2^11 - 1, in two's complement
abbrev pub is_short : ℕ → Bool
is_short n = nat_lt ((n + 2 ^ 11) % 2 ^ 64) (2 ^ 12)

abbrev pub constant_12 : ℕ → ℕ → List Instr
constant_12 rd n = I Addi rd 0 (lower_of n) ∷ []

-- one from -2^31 to 2^31 - 1
abbrev pub is_word : ℕ → Bool
is_word n = nat_lt ((n + 2 ^ 31) % 2 ^ 64) (2 ^ 32)

abbrev pub constant_32 : ℕ → ℕ → List Instr
constant_32 rd n = U Lui rd (upper_of n % 2 ^ 20) ∷ I Addiw rd rd (lower_of n) ∷ []

-- any number of 64 bits
abbrev pub constant_64 : ℕ → ℕ → List Instr
constant_64 rd n =
    U Lui rd (upper_of (upper_of (upper_of (upper_of n))))
    ∷ I Addi rd rd (lower_of (upper_of (upper_of (upper_of n))))
    ∷ I Slli rd rd (pos 12)
    ∷ I Addi rd rd (lower_of (upper_of (upper_of n)))
    ∷ I Slli rd rd (pos 12)
    ∷ I Addi rd rd (lower_of (upper_of n))
    ∷ I Slli rd rd (pos 12)
    ∷ I Addi rd rd (lower_of n)
    ∷ []

-- a number of 64 bits in a register, by the shortest form that serves
abbrev pub constant_code : ℕ → ℕ → List Instr
constant_code rd n = if is_short n then constant_12 rd n else if is_word n then constant_32 rd n else constant_64 rd n

-- how many instructions they are
abbrev pub constant_length : ℕ → ℕ
constant_length n = if is_short n then 1 else if is_word n then 2 else 8

-- the same instructions for contracts, which don't unfold them
unfoldable pub constant : ℕ → ℕ → List Instr
constant rd n = constant_code rd n
