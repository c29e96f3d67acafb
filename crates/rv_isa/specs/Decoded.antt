-- The table read backwards: the instruction of a word, or none.
use Rattle.std.specs.Prelude.{◌≡◌, ◌≢◌, ℕ, ◌+◌, ◌-◌, ◌*◌, ◌/◌, ◌%◌, ◌^◌, ℤ, pos, negsuc, List, [], ◌∷◌, Option, Some, None, Bool, true, ◌&&◌, ◌||◌, ◌==◌, nat_lt, if◌then◌else◌, MatchOption}
use Rattle.rv_isa.specs.declared.instr.ROp.{ROp}
use Rattle.rv_isa.specs.declared.instr.ROp.TheVariants.{Add, Sll, Slt, Sltu, Xor, Srl, Or, And, Sub, Sra, Mul, Mulh, Mulhsu, Mulhu, Div, Divu, Rem, Remu, Addw, Sllw, Srlw, Subw, Sraw, Mulw, Divw, Divuw, Remw, Remuw}
use Rattle.rv_isa.specs.declared.instr.IOp.{IOp}
use Rattle.rv_isa.specs.declared.instr.IOp.TheVariants.{Addi, Slti, Sltiu, Xori, Ori, Andi, Slli, Srli, Srai, Lb, Lh, Lw, Ld, Lbu, Lhu, Lwu, Jalr, Addiw, Slliw, Srliw, Sraiw, Fence}
use Rattle.rv_isa.specs.declared.instr.SOp.{SOp}
use Rattle.rv_isa.specs.declared.instr.SOp.TheVariants.{Sb, Sh, Sw, Sd}
use Rattle.rv_isa.specs.declared.instr.BOp.{BOp}
use Rattle.rv_isa.specs.declared.instr.BOp.TheVariants.{Beq, Bne, Blt, Bge, Bltu, Bgeu}
use Rattle.rv_isa.specs.declared.instr.UOp.TheVariants.{Lui, Auipc}
use Rattle.rv_isa.specs.declared.instr.Instr.{Instr}
use Rattle.rv_isa.specs.declared.instr.Instr.TheVariants.{R, I, S, B, U, J, Ecall}
use Rattle.rv_isa.specs.declared.parts.Parts.{Parts}
use Rattle.rv_isa.specs.InstrRows.{r_row, i_row, shift_row, s_row, b_row}
use Rattle.rv_isa.specs.InstrWords.{IsInstr, word_of}

-- the first that is so
abbrev pub first_of : {Op : Type 0} → (Op → Bool) → List Op → Option Op
first_of is [] = None
first_of is (op ∷ ops) = if is op then Some op else first_of is ops

abbrev pub is_row_2 : ℕ × ℕ → ℕ → ℕ → Bool
is_row_2 row a b = (row.0 == a) && (row.1 == b)

abbrev pub is_row_3 : ℕ × ℕ × ℕ → ℕ → ℕ → ℕ → Bool
is_row_3 row a b c = (row.0 == a) && (row.1 == b) && (row.2 == c)

abbrev pub then_some : {X Y : Type 0} → Option X → (X → Option Y) → Option Y
then_some None f = None
then_some (Some x) f = f x

-- the number whose bits in two's complement of h + 1 bits are n
abbrev pub signed : ℕ → ℕ → ℤ
signed h n = if nat_lt n (2 ^ h) then pos n else negsuc (2 ^ (h + 1) - 1 - n)

-- the fields of a word
abbrev pub parts_of : ℕ → Parts
parts_of w = record { opcode = w % 2 ^ 7; rd = w / 2 ^ 7 % 2 ^ 5; funct3 = w / 2 ^ 12 % 2 ^ 3; rs1 = w / 2 ^ 15 % 2 ^ 5; rs2 = w / 2 ^ 20 % 2 ^ 5; funct7 = w / 2 ^ 25 }

-- the bits of the immediate of B
abbrev pub bits_b : Parts → ℕ
bits_b f = f.rd / 2 * 2 + 2 ^ 11 * (f.rd % 2) + 2 ^ 5 * (f.funct7 % 2 ^ 6) + 2 ^ 12 * (f.funct7 / 2 ^ 6)

-- the upper 20 bits
abbrev pub upper : Parts → ℕ
upper f = f.funct3 + 2 ^ 3 * f.rs1 + 2 ^ 8 * f.rs2 + 2 ^ 13 * f.funct7

-- the bits of the immediate of J, of the upper 20 bits
abbrev pub bits_j : ℕ → ℕ
bits_j n = 2 ^ 12 * (n % 2 ^ 8) + 2 ^ 11 * (n / 2 ^ 8 % 2) + 2 * (n / 2 ^ 9 % 2 ^ 10) + 2 ^ 20 * (n / 2 ^ 19)

abbrev pub r_ops : List ROp
r_ops = Add ∷ Sll ∷ Slt ∷ Sltu ∷ Xor ∷ Srl ∷ Or ∷ And ∷ Sub ∷ Sra ∷ Mul ∷ Mulh ∷ Mulhsu ∷ Mulhu ∷ Div ∷ Divu ∷ Rem ∷ Remu ∷ Addw ∷ Sllw ∷ Srlw ∷ Subw ∷ Sraw ∷ Mulw ∷ Divw ∷ Divuw ∷ Remw ∷ Remuw ∷ []

abbrev pub op_r : ℕ → ℕ → ℕ → Option ROp
op_r a b c = first_of (λ op. is_row_3 (r_row op) a b c) r_ops

-- the twelve bits of an immediate of I: of a shift they have its upper bits
abbrev pub takes_bits : Option (ℕ × ℕ) → ℕ → Bool
takes_bits None bits = true
takes_bits (Some row) bits = bits / 2 ^ row.0 == row.1

abbrev pub immediate_i : Option (ℕ × ℕ) → ℕ → ℤ
immediate_i None bits = signed 11 bits
immediate_i (Some row) bits = pos (bits % 2 ^ row.0)

abbrev pub i_ops : List IOp
i_ops = Addi ∷ Slti ∷ Sltiu ∷ Xori ∷ Ori ∷ Andi ∷ Slli ∷ Srli ∷ Srai ∷ Lb ∷ Lh ∷ Lw ∷ Ld ∷ Lbu ∷ Lhu ∷ Lwu ∷ Jalr ∷ Addiw ∷ Slliw ∷ Srliw ∷ Sraiw ∷ Fence ∷ []

abbrev pub op_i : ℕ → ℕ → ℕ → Option IOp
op_i a b bits = first_of (λ op. is_row_2 (i_row op) a b && takes_bits (shift_row op) bits) i_ops

abbrev pub op_s : ℕ → Option SOp
op_s a = first_of (λ op. s_row op == a) (Sb ∷ Sh ∷ Sw ∷ Sd ∷ [])

abbrev pub op_b : ℕ → Option BOp
op_b a = first_of (λ op. b_row op == a) (Beq ∷ Bne ∷ Blt ∷ Bge ∷ Bltu ∷ Bgeu ∷ [])

abbrev pub decoded_r : Parts → Option Instr
decoded_r f = then_some (op_r f.opcode f.funct3 f.funct7) (λ op. Some (R op f.rd f.rs1 f.rs2))

-- the twelve bits above rs1
abbrev pub bits_i : Parts → ℕ
bits_i f = f.rs2 + 2 ^ 5 * f.funct7

abbrev pub decoded_i : Parts → Option Instr
decoded_i f = then_some (op_i f.opcode f.funct3 (bits_i f)) (λ op. Some (I op f.rd f.rs1 (immediate_i (shift_row op) (bits_i f))))

abbrev pub decoded_s : Parts → Option Instr
decoded_s f = then_some (op_s f.funct3) (λ op. Some (S op f.rs1 f.rs2 (signed 11 (f.rd + 2 ^ 5 * f.funct7))))

abbrev pub decoded_b : Parts → Option Instr
decoded_b f = then_some (op_b f.funct3) (λ op. Some (B op f.rs1 f.rs2 (signed 12 (bits_b f))))

abbrev pub decoded_ecall : Parts → Option Instr
decoded_ecall f = if (f.rd == 0) && (f.funct3 == 0) && (f.rs1 == 0) && (f.rs2 == 0) && (f.funct7 == 0) then Some Ecall else None

unfoldable pub decoded_parts : Parts → Option Instr
decoded_parts f =
    if (f.opcode == 0x33) || (f.opcode == 0x3b) then decoded_r f
    else if f.opcode == 0x23 then decoded_s f
    else if f.opcode == 0x63 then decoded_b f
    else if f.opcode == 0x37 then Some (U Lui f.rd (upper f))
    else if f.opcode == 0x17 then Some (U Auipc f.rd (upper f))
    else if f.opcode == 0x6f then Some (J f.rd (signed 20 (bits_j (upper f))))
    else if f.opcode == 0x73 then decoded_ecall f
    else decoded_i f

-- the instruction of a word, or none
unfoldable pub decoded : ℕ → Option Instr
decoded w = decoded_parts (parts_of w)

-- the instruction of a word is the one that has the word, and none where none has it
abbrev pub Reads : Option Instr → ℕ → Type 0
Reads o w = MatchOption o ((i : Instr) → IsInstr i → word_of i ≢ w) (λ i. IsInstr i × (word_of i ≡ w))
