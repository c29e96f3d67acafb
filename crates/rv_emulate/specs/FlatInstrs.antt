-- The instructions that flat ones stand for.
use Rattle.std.specs.Prelude.{ℕ, ◌%◌, ◌^◌, ℤ, Option, Some, None}
use Rattle.std.specs.Int.{w32, cast_unsigned}
use Rattle.rv_isa.specs.declared.instr.ROp.TheVariants as r
use Rattle.rv_isa.specs.declared.instr.IOp.TheVariants as i
use Rattle.rv_isa.specs.declared.instr.SOp.TheVariants as s
use Rattle.rv_isa.specs.declared.instr.BOp.TheVariants as b
use Rattle.rv_isa.specs.declared.instr.UOp.TheVariants as u
use Rattle.rv_isa.specs.declared.instr.Instr.{Instr}
use Rattle.rv_isa.specs.declared.instr.Instr.TheVariants.{R, I, S, B, U, J, Ecall}
use Rattle.rv_emulate.specs.declared.what.What.{What}
use Rattle.rv_emulate.specs.declared.what.What.TheVariants as w

-- the upper bits that an immediate of 32 bits has
abbrev pub upper_bits : ℤ → ℕ
upper_bits imm = cast_unsigned w32 imm % 2 ^ 20

-- the instruction that does this with these registers and this immediate, none where it is no instruction
abbrev pub instr_by : What → ℕ → ℕ → ℕ → ℤ → Option Instr
instr_by w.Add rd rs1 rs2 imm = Some (R r.Add rd rs1 rs2)
instr_by w.Sll rd rs1 rs2 imm = Some (R r.Sll rd rs1 rs2)
instr_by w.Slt rd rs1 rs2 imm = Some (R r.Slt rd rs1 rs2)
instr_by w.Sltu rd rs1 rs2 imm = Some (R r.Sltu rd rs1 rs2)
instr_by w.Xor rd rs1 rs2 imm = Some (R r.Xor rd rs1 rs2)
instr_by w.Srl rd rs1 rs2 imm = Some (R r.Srl rd rs1 rs2)
instr_by w.Or rd rs1 rs2 imm = Some (R r.Or rd rs1 rs2)
instr_by w.And rd rs1 rs2 imm = Some (R r.And rd rs1 rs2)
instr_by w.Sub rd rs1 rs2 imm = Some (R r.Sub rd rs1 rs2)
instr_by w.Sra rd rs1 rs2 imm = Some (R r.Sra rd rs1 rs2)
instr_by w.Mul rd rs1 rs2 imm = Some (R r.Mul rd rs1 rs2)
instr_by w.Mulh rd rs1 rs2 imm = Some (R r.Mulh rd rs1 rs2)
instr_by w.Mulhsu rd rs1 rs2 imm = Some (R r.Mulhsu rd rs1 rs2)
instr_by w.Mulhu rd rs1 rs2 imm = Some (R r.Mulhu rd rs1 rs2)
instr_by w.Div rd rs1 rs2 imm = Some (R r.Div rd rs1 rs2)
instr_by w.Divu rd rs1 rs2 imm = Some (R r.Divu rd rs1 rs2)
instr_by w.Rem rd rs1 rs2 imm = Some (R r.Rem rd rs1 rs2)
instr_by w.Remu rd rs1 rs2 imm = Some (R r.Remu rd rs1 rs2)
instr_by w.Addw rd rs1 rs2 imm = Some (R r.Addw rd rs1 rs2)
instr_by w.Sllw rd rs1 rs2 imm = Some (R r.Sllw rd rs1 rs2)
instr_by w.Srlw rd rs1 rs2 imm = Some (R r.Srlw rd rs1 rs2)
instr_by w.Subw rd rs1 rs2 imm = Some (R r.Subw rd rs1 rs2)
instr_by w.Sraw rd rs1 rs2 imm = Some (R r.Sraw rd rs1 rs2)
instr_by w.Mulw rd rs1 rs2 imm = Some (R r.Mulw rd rs1 rs2)
instr_by w.Divw rd rs1 rs2 imm = Some (R r.Divw rd rs1 rs2)
instr_by w.Divuw rd rs1 rs2 imm = Some (R r.Divuw rd rs1 rs2)
instr_by w.Remw rd rs1 rs2 imm = Some (R r.Remw rd rs1 rs2)
instr_by w.Remuw rd rs1 rs2 imm = Some (R r.Remuw rd rs1 rs2)
instr_by w.Addi rd rs1 rs2 imm = Some (I i.Addi rd rs1 imm)
instr_by w.Slti rd rs1 rs2 imm = Some (I i.Slti rd rs1 imm)
instr_by w.Sltiu rd rs1 rs2 imm = Some (I i.Sltiu rd rs1 imm)
instr_by w.Xori rd rs1 rs2 imm = Some (I i.Xori rd rs1 imm)
instr_by w.Ori rd rs1 rs2 imm = Some (I i.Ori rd rs1 imm)
instr_by w.Andi rd rs1 rs2 imm = Some (I i.Andi rd rs1 imm)
instr_by w.Slli rd rs1 rs2 imm = Some (I i.Slli rd rs1 imm)
instr_by w.Srli rd rs1 rs2 imm = Some (I i.Srli rd rs1 imm)
instr_by w.Srai rd rs1 rs2 imm = Some (I i.Srai rd rs1 imm)
instr_by w.Lb rd rs1 rs2 imm = Some (I i.Lb rd rs1 imm)
instr_by w.Lh rd rs1 rs2 imm = Some (I i.Lh rd rs1 imm)
instr_by w.Lw rd rs1 rs2 imm = Some (I i.Lw rd rs1 imm)
instr_by w.Ld rd rs1 rs2 imm = Some (I i.Ld rd rs1 imm)
instr_by w.Lbu rd rs1 rs2 imm = Some (I i.Lbu rd rs1 imm)
instr_by w.Lhu rd rs1 rs2 imm = Some (I i.Lhu rd rs1 imm)
instr_by w.Lwu rd rs1 rs2 imm = Some (I i.Lwu rd rs1 imm)
instr_by w.Jalr rd rs1 rs2 imm = Some (I i.Jalr rd rs1 imm)
instr_by w.Addiw rd rs1 rs2 imm = Some (I i.Addiw rd rs1 imm)
instr_by w.Slliw rd rs1 rs2 imm = Some (I i.Slliw rd rs1 imm)
instr_by w.Srliw rd rs1 rs2 imm = Some (I i.Srliw rd rs1 imm)
instr_by w.Sraiw rd rs1 rs2 imm = Some (I i.Sraiw rd rs1 imm)
instr_by w.Fence rd rs1 rs2 imm = Some (I i.Fence rd rs1 imm)
instr_by w.Sb rd rs1 rs2 imm = Some (S s.Sb rs1 rs2 imm)
instr_by w.Sh rd rs1 rs2 imm = Some (S s.Sh rs1 rs2 imm)
instr_by w.Sw rd rs1 rs2 imm = Some (S s.Sw rs1 rs2 imm)
instr_by w.Sd rd rs1 rs2 imm = Some (S s.Sd rs1 rs2 imm)
instr_by w.Beq rd rs1 rs2 imm = Some (B b.Beq rs1 rs2 imm)
instr_by w.Bne rd rs1 rs2 imm = Some (B b.Bne rs1 rs2 imm)
instr_by w.Blt rd rs1 rs2 imm = Some (B b.Blt rs1 rs2 imm)
instr_by w.Bge rd rs1 rs2 imm = Some (B b.Bge rs1 rs2 imm)
instr_by w.Bltu rd rs1 rs2 imm = Some (B b.Bltu rs1 rs2 imm)
instr_by w.Bgeu rd rs1 rs2 imm = Some (B b.Bgeu rs1 rs2 imm)
instr_by w.Lui rd rs1 rs2 imm = Some (U u.Lui rd (upper_bits imm))
instr_by w.Auipc rd rs1 rs2 imm = Some (U u.Auipc rd (upper_bits imm))
instr_by w.Jal rd rs1 rs2 imm = Some (J rd imm)
instr_by w.Ecall rd rs1 rs2 imm = Some Ecall
instr_by w.Illegal rd rs1 rs2 imm = None
