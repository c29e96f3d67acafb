-- The word of an instruction, by the formats R, I, S, B, U and J.
use Rattle.std.specs.Prelude.{◌≡◌, ℕ, ◌+◌, ◌-◌, ◌*◌, ◌/◌, ◌%◌, ◌^◌, ◌<◌, ℤ, pos, negsuc, suc, Option, Some, None, MatchOption, ◌≢◌}
use Rattle.rv_isa.specs.declared.instr.Instr.{Instr}
use Rattle.rv_isa.specs.declared.instr.Instr.TheVariants.{R, I, S, B, U, J, Ecall}
use Rattle.rv_isa.specs.declared.parts.Parts.{Parts}
use Rattle.rv_isa.specs.InstrRows.{r_row, i_row, shift_row, s_row, b_row, u_row}

-- a word by its fields of 7, 5, 3, 5, 5 and 7 bits, the lowest first
abbrev pub joined : Parts → ℕ
joined f = f.opcode + 2 ^ 7 * f.rd + 2 ^ 12 * f.funct3 + 2 ^ 15 * f.rs1 + 2 ^ 20 * f.rs2 + 2 ^ 25 * f.funct7

-- each field has its bits
pub record AreParts (f : Parts) : Type 0 where
  pub opcode : f.opcode < 2 ^ 7
  pub rd : f.rd < 2 ^ 5
  pub funct3 : f.funct3 < 2 ^ 3
  pub rs1 : f.rs1 < 2 ^ 5
  pub rs2 : f.rs2 < 2 ^ 5
  pub funct7 : f.funct7 < 2 ^ 7

-- z in two's complement of k bits
abbrev pub twos : ℕ → ℤ → ℕ
twos k (pos n) = n
twos k (negsuc n) = 2 ^ k - suc n

-- z is from - 2 ^ h to 2 ^ h - 1
abbrev pub IsFrom : ℕ → ℤ → Type 0
IsFrom h (pos n) = n < 2 ^ h
IsFrom h (negsuc n) = n < 2 ^ h

abbrev pub IsEven : ℤ → Type 0
IsEven (pos n) = n % 2 ≡ 0
IsEven (negsuc n) = n % 2 ≡ 1

-- the immediate of I: 12 bits with a sign, or an amount of the bits that a shift has for it
abbrev pub FitsI : Option (ℕ × ℕ) → ℤ → Type 0
FitsI None z = IsFrom 11 z
FitsI (Some row) (pos n) = n < 2 ^ row.0
FitsI (Some row) (negsuc n) = ⊥

-- the twelve bits of an immediate of I, where a shift has its upper bits
abbrev pub twelve : Option (ℕ × ℕ) → ℤ → ℕ
twelve None z = twos 12 z
twelve (Some row) z = twos 12 z + 2 ^ row.0 * row.1

abbrev pub fields_r : ℕ × ℕ × ℕ → ℕ → ℕ → ℕ → Parts
fields_r row rd rs1 rs2 =
    record { opcode = row.0; rd = rd; funct3 = row.1; rs1 = rs1; rs2 = rs2; funct7 = row.2 }

-- the immediate stands above rs1
abbrev pub fields_i : ℕ × ℕ → ℕ → ℕ → ℕ → Parts
fields_i row rd rs1 bits =
    record { opcode = row.0; rd = rd; funct3 = row.1; rs1 = rs1; rs2 = bits % 2 ^ 5; funct7 = bits / 2 ^ 5 }

-- the immediate's lowest 5 bits stand in the place of rd, the others in that of funct7
abbrev pub fields_s : ℕ → ℕ → ℕ → ℕ → Parts
fields_s row rs1 rs2 bits =
    record { opcode = 0x23; rd = bits % 2 ^ 5; funct3 = row; rs1 = rs1; rs2 = rs2; funct7 = bits / 2 ^ 5 }

-- in the place of rd bit 11 of the immediate, which is even, and bits 1 to 4; in that of funct7 bits 5 to 10 and 12
abbrev pub fields_b : ℕ → ℕ → ℕ → ℕ → Parts
fields_b row rs1 rs2 bits =
    record { opcode = 0x63; rd = bits / 2 ^ 11 % 2 + bits % 2 ^ 5; funct3 = row; rs1 = rs1; rs2 = rs2; funct7 = bits / 2 ^ 5 % 2 ^ 6 + 2 ^ 6 * (bits / 2 ^ 12) }

-- the upper 20 bits
abbrev pub fields_u : ℕ → ℕ → ℕ → Parts
fields_u opcode rd upper =
    record { opcode = opcode; rd = rd; funct3 = upper % 2 ^ 3; rs1 = upper / 2 ^ 3 % 2 ^ 5; rs2 = upper / 2 ^ 8 % 2 ^ 5; funct7 = upper / 2 ^ 13 }

-- the immediate of J in the upper 20 bits, from the lowest on: bits 12 to 19, 11, 1 to 10, and 20
abbrev pub upper_j : ℕ → ℕ
upper_j bits = bits / 2 ^ 12 % 2 ^ 8 + 2 ^ 8 * (bits / 2 ^ 11 % 2) + 2 ^ 9 * (bits / 2 % 2 ^ 10) + 2 ^ 19 * (bits / 2 ^ 20)

abbrev pub fields_of : Instr → Parts
fields_of (R op rd rs1 rs2) = fields_r (r_row op) rd rs1 rs2
fields_of (I op rd rs1 imm) = fields_i (i_row op) rd rs1 (twelve (shift_row op) imm)
fields_of (S op rs1 rs2 imm) = fields_s (s_row op) rs1 rs2 (twos 12 imm)
fields_of (B op rs1 rs2 imm) = fields_b (b_row op) rs1 rs2 (twos 13 imm)
fields_of (U op rd imm) = fields_u (u_row op) rd imm
fields_of (J rd imm) = fields_u 0x6f rd (upper_j (twos 21 imm))
fields_of Ecall = record { opcode = 0x73; rd = 0; funct3 = 0; rs1 = 0; rs2 = 0; funct7 = 0 }

-- the word of an instruction
abbrev pub word_of : Instr → ℕ
word_of i = joined (fields_of i)

-- what has a word: registers below 32, and immediates in their format's range
abbrev pub IsInstr : Instr → Type 0
IsInstr (R op rd rs1 rs2) = (rd < 32) × (rs1 < 32) × (rs2 < 32)
IsInstr (I op rd rs1 imm) = (rd < 32) × (rs1 < 32) × FitsI (shift_row op) imm
IsInstr (S op rs1 rs2 imm) = (rs1 < 32) × (rs2 < 32) × IsFrom 11 imm
IsInstr (B op rs1 rs2 imm) = (rs1 < 32) × (rs2 < 32) × IsFrom 12 imm × IsEven imm
IsInstr (U op rd imm) = (rd < 32) × (imm < 2 ^ 20)
IsInstr (J rd imm) = (rd < 32) × IsFrom 20 imm × IsEven imm
IsInstr Ecall = Unit {0}

-- an instruction of these fields, or none where there is none
abbrev pub Decodes : Option Instr → Parts → Type 0
Decodes o f = MatchOption o ((i : Instr) → IsInstr i → fields_of i ≢ f) (λ i. IsInstr i × (fields_of i ≡ f))
