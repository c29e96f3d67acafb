-- Jumps and calls to a place anywhere in the code.
use Rattle.std.specs.Prelude.{ℕ, ◌+◌, ◌-◌, ◌%◌, ◌^◌, pos, List, [], ◌∷◌}
use Rattle.rv_isa.specs.declared.instr.IOp.TheVariants.{Jalr}
use Rattle.rv_isa.specs.declared.instr.BOp.{BOp}
use Rattle.rv_isa.specs.declared.instr.BOp.TheVariants.{Beq, Bne, Blt, Bge, Bltu, Bgeu}
use Rattle.rv_isa.specs.declared.instr.UOp.TheVariants.{Auipc}
use Rattle.rv_isa.specs.declared.instr.Instr.{Instr}
use Rattle.rv_isa.specs.declared.instr.Instr.TheVariants.{I, B, U}
use Rattle.rv_straight.specs.Constants.{upper_of, lower_of}

-- the way from one place to another, in 32 bits
abbrev pub distance : ℕ → ℕ → ℕ
distance from to = (to + 2 ^ 32 - from) % 2 ^ 32

-- its upper 20 bits, one more where the lower part is negative
abbrev pub far_upper : ℕ → ℕ → ℕ
far_upper from to = upper_of (distance from to) % 2 ^ 20

-- from a place to another, by AUIPC and JALR through a register, with the next place in rd
abbrev pub leap_code : ℕ → ℕ → ℕ → ℕ → List Instr
leap_code through rd place to = U Auipc through (far_upper place to) ∷ I Jalr rd through (lower_of (distance place to)) ∷ []

-- what is taken where the other is not
abbrev pub inverse : BOp → BOp
inverse Beq = Bne
inverse Bne = Beq
inverse Blt = Bge
inverse Bge = Blt
inverse Bltu = Bgeu
inverse Bgeu = Bltu

-- a jump to a place where a comparison of two registers holds: the inverse branch over AUIPC and JALR
abbrev pub jump_if_code : BOp → ℕ → ℕ → ℕ → ℕ → List Instr
jump_if_code op rs1 rs2 place to = B (inverse op) rs1 rs2 (pos 12) ∷ leap_code 28 0 (place + 4) to

-- the same for contracts, which don't unfold them
unfoldable pub leap : ℕ → ℕ → ℕ → ℕ → List Instr
leap through rd place to = leap_code through rd place to

unfoldable pub jump_if : BOp → ℕ → ℕ → ℕ → ℕ → List Instr
jump_if op rs1 rs2 place to = jump_if_code op rs1 rs2 place to
