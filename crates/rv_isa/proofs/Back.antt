-- The word of an instruction gives the instruction again.
use Rattle.std.proofs.Common.{◌≡◌, ℕ, ◌+◌, ◌*◌, ◌/◌, ◌%◌, ◌^◌, Some, refl, ap, ◌∙◌, arith}
use Rattle.std.specs.Prelude.{ℤ}
use Rattle.rv_isa.specs.declared.instr.ROp.{ROp}
use Rattle.rv_isa.specs.declared.instr.ROp.TheVariants.{Add, Sll, Slt, Sltu, Xor, Srl, Or, And, Sub, Sra, Mul, Mulh, Mulhsu, Mulhu, Div, Divu, Rem, Remu, Addw, Sllw, Srlw, Subw, Sraw, Mulw, Divw, Divuw, Remw, Remuw}
use Rattle.rv_isa.specs.declared.instr.IOp.{IOp}
use Rattle.rv_isa.specs.declared.instr.IOp.TheVariants.{Addi, Slti, Sltiu, Xori, Ori, Andi, Slli, Srli, Srai, Lb, Lh, Lw, Ld, Lbu, Lhu, Lwu, Jalr, Addiw, Slliw, Srliw, Sraiw, Fence}
use Rattle.rv_isa.specs.declared.instr.SOp.{SOp}
use Rattle.rv_isa.specs.declared.instr.SOp.TheVariants.{Sb, Sh, Sw, Sd}
use Rattle.rv_isa.specs.declared.instr.BOp.{BOp}
use Rattle.rv_isa.specs.declared.instr.BOp.TheVariants.{Beq, Bne, Blt, Bge, Bltu, Bgeu}
use Rattle.rv_isa.specs.declared.instr.UOp.{UOp}
use Rattle.rv_isa.specs.declared.instr.UOp.TheVariants.{Lui, Auipc}
use Rattle.rv_isa.specs.declared.instr.Instr.{Instr}
use Rattle.rv_isa.specs.declared.instr.Instr.TheVariants.{R, I, S, B, U, J, Ecall}
use Rattle.rv_isa.specs.declared.parts.Parts.{Parts}
use Rattle.rv_isa.specs.InstrWords.{AreParts, joined, fields_of, word_of, IsInstr, IsFrom, FitsI, twos}
use Rattle.rv_isa.specs.InstrRows.{shift_row}
use Rattle.rv_isa.specs.Decoded.{decoded, decoded_parts, parts_of, signed}

pub parts_joined : (f : Parts) → AreParts f → parts_of (joined f) ≡ f
parts_joined f h = grind arith

pub are_parts : (i : Instr) → IsInstr i → AreParts (fields_of i)
are_parts i h = grind arith

-- an immediate of 12 bits, which I and S hold in two pieces
signed-twos_11 : (z : ℤ) → IsFrom 11 z → signed 11 (twos 12 z % 2 ^ 5 + 2 ^ 5 * (twos 12 z / 2 ^ 5)) ≡ z
signed-twos_11 z h = grind arith

back_r : (op : ROp) (rd rs1 rs2 : ℕ) → decoded_parts (fields_of (R op rd rs1 rs2)) ≡ Some (R op rd rs1 rs2)
unfolding decoded_parts
back_r Add rd rs1 rs2 = refl
back_r Sll rd rs1 rs2 = refl
back_r Slt rd rs1 rs2 = refl
back_r Sltu rd rs1 rs2 = refl
back_r Xor rd rs1 rs2 = refl
back_r Srl rd rs1 rs2 = refl
back_r Or rd rs1 rs2 = refl
back_r And rd rs1 rs2 = refl
back_r Sub rd rs1 rs2 = refl
back_r Sra rd rs1 rs2 = refl
back_r Mul rd rs1 rs2 = refl
back_r Mulh rd rs1 rs2 = refl
back_r Mulhsu rd rs1 rs2 = refl
back_r Mulhu rd rs1 rs2 = refl
back_r Div rd rs1 rs2 = refl
back_r Divu rd rs1 rs2 = refl
back_r Rem rd rs1 rs2 = refl
back_r Remu rd rs1 rs2 = refl
back_r Addw rd rs1 rs2 = refl
back_r Sllw rd rs1 rs2 = refl
back_r Srlw rd rs1 rs2 = refl
back_r Subw rd rs1 rs2 = refl
back_r Sraw rd rs1 rs2 = refl
back_r Mulw rd rs1 rs2 = refl
back_r Divw rd rs1 rs2 = refl
back_r Divuw rd rs1 rs2 = refl
back_r Remw rd rs1 rs2 = refl
back_r Remuw rd rs1 rs2 = refl

back_i : (op : IOp) (rd rs1 : ℕ) (imm : ℤ) → FitsI (shift_row op) imm → decoded_parts (fields_of (I op rd rs1 imm)) ≡ Some (I op rd rs1 imm)
unfolding decoded_parts
back_i Addi rd rs1 imm h = ap (λ z. Some (I Addi rd rs1 z)) (signed-twos_11 imm h)
back_i Slti rd rs1 imm h = ap (λ z. Some (I Slti rd rs1 z)) (signed-twos_11 imm h)
back_i Sltiu rd rs1 imm h = ap (λ z. Some (I Sltiu rd rs1 z)) (signed-twos_11 imm h)
back_i Xori rd rs1 imm h = ap (λ z. Some (I Xori rd rs1 z)) (signed-twos_11 imm h)
back_i Ori rd rs1 imm h = ap (λ z. Some (I Ori rd rs1 z)) (signed-twos_11 imm h)
back_i Andi rd rs1 imm h = ap (λ z. Some (I Andi rd rs1 z)) (signed-twos_11 imm h)
back_i Slli rd rs1 imm h = grind arith
back_i Srli rd rs1 imm h = grind arith
back_i Srai rd rs1 imm h = grind arith
back_i Lb rd rs1 imm h = ap (λ z. Some (I Lb rd rs1 z)) (signed-twos_11 imm h)
back_i Lh rd rs1 imm h = ap (λ z. Some (I Lh rd rs1 z)) (signed-twos_11 imm h)
back_i Lw rd rs1 imm h = ap (λ z. Some (I Lw rd rs1 z)) (signed-twos_11 imm h)
back_i Ld rd rs1 imm h = ap (λ z. Some (I Ld rd rs1 z)) (signed-twos_11 imm h)
back_i Lbu rd rs1 imm h = ap (λ z. Some (I Lbu rd rs1 z)) (signed-twos_11 imm h)
back_i Lhu rd rs1 imm h = ap (λ z. Some (I Lhu rd rs1 z)) (signed-twos_11 imm h)
back_i Lwu rd rs1 imm h = ap (λ z. Some (I Lwu rd rs1 z)) (signed-twos_11 imm h)
back_i Jalr rd rs1 imm h = ap (λ z. Some (I Jalr rd rs1 z)) (signed-twos_11 imm h)
back_i Addiw rd rs1 imm h = ap (λ z. Some (I Addiw rd rs1 z)) (signed-twos_11 imm h)
back_i Slliw rd rs1 imm h = grind arith
back_i Srliw rd rs1 imm h = grind arith
back_i Sraiw rd rs1 imm h = grind arith
back_i Fence rd rs1 imm h = ap (λ z. Some (I Fence rd rs1 z)) (signed-twos_11 imm h)

back_s : (op : SOp) (rs1 rs2 : ℕ) (imm : ℤ) → IsFrom 11 imm → decoded_parts (fields_of (S op rs1 rs2 imm)) ≡ Some (S op rs1 rs2 imm)
unfolding decoded_parts
back_s Sb rs1 rs2 imm h = ap (λ z. Some (S Sb rs1 rs2 z)) (signed-twos_11 imm h)
back_s Sh rs1 rs2 imm h = ap (λ z. Some (S Sh rs1 rs2 z)) (signed-twos_11 imm h)
back_s Sw rs1 rs2 imm h = ap (λ z. Some (S Sw rs1 rs2 z)) (signed-twos_11 imm h)
back_s Sd rs1 rs2 imm h = ap (λ z. Some (S Sd rs1 rs2 z)) (signed-twos_11 imm h)

back_b : (op : BOp) (rs1 rs2 : ℕ) (imm : ℤ) → IsInstr (B op rs1 rs2 imm) → decoded_parts (fields_of (B op rs1 rs2 imm)) ≡ Some (B op rs1 rs2 imm)
unfolding decoded_parts
back_b Beq rs1 rs2 imm h = grind arith
back_b Bne rs1 rs2 imm h = grind arith
back_b Blt rs1 rs2 imm h = grind arith
back_b Bge rs1 rs2 imm h = grind arith
back_b Bltu rs1 rs2 imm h = grind arith
back_b Bgeu rs1 rs2 imm h = grind arith

back_u : (op : UOp) (rd imm : ℕ) → IsInstr (U op rd imm) → decoded_parts (fields_of (U op rd imm)) ≡ Some (U op rd imm)
unfolding decoded_parts
back_u Lui rd imm h = grind arith
back_u Auipc rd imm h = grind arith

back_j : (rd : ℕ) (imm : ℤ) → IsInstr (J rd imm) → decoded_parts (fields_of (J rd imm)) ≡ Some (J rd imm)
unfolding decoded_parts
back_j rd imm h = grind arith

back : (i : Instr) → IsInstr i → decoded_parts (fields_of i) ≡ Some i
unfolding decoded_parts
back (R op rd rs1 rs2) h = back_r op rd rs1 rs2
back (I op rd rs1 imm) h = back_i op rd rs1 imm h.2
back (S op rs1 rs2 imm) h = back_s op rs1 rs2 imm h.2
back (B op rs1 rs2 imm) h = back_b op rs1 rs2 imm h
back (U op rd imm) h = back_u op rd imm h
back (J rd imm) h = back_j rd imm h
back Ecall h = refl

pub decoded-word : (i : Instr) → IsInstr i → decoded (word_of i) ≡ Some i
unfolding decoded
decoded-word i h = ap decoded_parts (parts_joined (fields_of i) (are_parts i h)) ∙ back i h

-- no two instructions have one word
pub one-word : (i j : Instr) → IsInstr i → IsInstr j → word_of i ≡ word_of j → i ≡ j
one-word i j hi hj e =
    let same : decoded (word_of i) ≡ decoded (word_of j) = ap decoded e in
    let first = decoded-word i hi in
    let second = decoded-word j hj in
    cc
