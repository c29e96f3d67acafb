-- The table of instructions: one row an operation, with the fields that tell it from others of its format
-- (RISC-V unprivileged manual, RV64I and M).
use Rattle.std.specs.Prelude.{ℕ, Option, Some, None}
use Rattle.rv_isa.specs.declared.instr.ROp.{ROp}
use Rattle.rv_isa.specs.declared.instr.ROp.TheVariants.{Add, Sll, Slt, Sltu, Xor, Srl, Or, And, Sub, Sra, Mul, Mulh, Mulhsu, Mulhu, Div, Divu, Rem, Remu, Addw, Sllw, Srlw, Subw, Sraw, Mulw, Divw, Divuw, Remw, Remuw}
use Rattle.rv_isa.specs.declared.instr.IOp.{IOp}
use Rattle.rv_isa.specs.declared.instr.IOp.TheVariants.{Addi, Slti, Sltiu, Xori, Ori, Andi, Slli, Srli, Srai, Lb, Lh, Lw, Ld, Lbu, Lhu, Lwu, Jalr, Addiw, Slliw, Srliw, Sraiw, Fence}
use Rattle.rv_isa.specs.declared.instr.SOp.{SOp}
use Rattle.rv_isa.specs.declared.instr.SOp.TheVariants.{Sb, Sh, Sw, Sd}
use Rattle.rv_isa.specs.declared.instr.BOp.{BOp}
use Rattle.rv_isa.specs.declared.instr.BOp.TheVariants.{Beq, Bne, Blt, Bge, Bltu, Bgeu}
use Rattle.rv_isa.specs.declared.instr.UOp.{UOp}
use Rattle.rv_isa.specs.declared.instr.UOp.TheVariants.{Lui, Auipc}

-- opcode, funct3 and funct7
abbrev pub r_row : ROp → ℕ × ℕ × ℕ
r_row Add = (0x33, 0, 0)
r_row Sll = (0x33, 1, 0)
r_row Slt = (0x33, 2, 0)
r_row Sltu = (0x33, 3, 0)
r_row Xor = (0x33, 4, 0)
r_row Srl = (0x33, 5, 0)
r_row Or = (0x33, 6, 0)
r_row And = (0x33, 7, 0)
r_row Sub = (0x33, 0, 0x20)
r_row Sra = (0x33, 5, 0x20)
r_row Mul = (0x33, 0, 1)
r_row Mulh = (0x33, 1, 1)
r_row Mulhsu = (0x33, 2, 1)
r_row Mulhu = (0x33, 3, 1)
r_row Div = (0x33, 4, 1)
r_row Divu = (0x33, 5, 1)
r_row Rem = (0x33, 6, 1)
r_row Remu = (0x33, 7, 1)
r_row Addw = (0x3b, 0, 0)
r_row Sllw = (0x3b, 1, 0)
r_row Srlw = (0x3b, 5, 0)
r_row Subw = (0x3b, 0, 0x20)
r_row Sraw = (0x3b, 5, 0x20)
r_row Mulw = (0x3b, 0, 1)
r_row Divw = (0x3b, 4, 1)
r_row Divuw = (0x3b, 5, 1)
r_row Remw = (0x3b, 6, 1)
r_row Remuw = (0x3b, 7, 1)

-- opcode and funct3
abbrev pub i_row : IOp → ℕ × ℕ
i_row Addi = (0x13, 0)
i_row Slti = (0x13, 2)
i_row Sltiu = (0x13, 3)
i_row Xori = (0x13, 4)
i_row Ori = (0x13, 6)
i_row Andi = (0x13, 7)
i_row Slli = (0x13, 1)
i_row Srli = (0x13, 5)
i_row Srai = (0x13, 5)
i_row Lb = (0x03, 0)
i_row Lh = (0x03, 1)
i_row Lw = (0x03, 2)
i_row Ld = (0x03, 3)
i_row Lbu = (0x03, 4)
i_row Lhu = (0x03, 5)
i_row Lwu = (0x03, 6)
i_row Jalr = (0x67, 0)
i_row Addiw = (0x1b, 0)
i_row Slliw = (0x1b, 1)
i_row Srliw = (0x1b, 5)
i_row Sraiw = (0x1b, 5)
i_row Fence = (0x0f, 0)

-- of a shift by an amount: how many bits of the twelve are the amount, and what the bits above them are
abbrev pub shift_row : IOp → Option (ℕ × ℕ)
shift_row Slli = Some (6, 0)
shift_row Srli = Some (6, 0)
shift_row Srai = Some (6, 0x10)
shift_row Slliw = Some (5, 0)
shift_row Srliw = Some (5, 0)
shift_row Sraiw = Some (5, 0x20)
shift_row _ = None

-- funct3, under the opcode 0x23
abbrev pub s_row : SOp → ℕ
s_row Sb = 0
s_row Sh = 1
s_row Sw = 2
s_row Sd = 3

-- funct3, under the opcode 0x63
abbrev pub b_row : BOp → ℕ
b_row Beq = 0
b_row Bne = 1
b_row Blt = 4
b_row Bge = 5
b_row Bltu = 6
b_row Bgeu = 7

-- opcode
abbrev pub u_row : UOp → ℕ
u_row Lui = 0x37
u_row Auipc = 0x17
