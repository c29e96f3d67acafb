-- What an instruction without a branch does, in one table.
use Rattle.std.specs.Prelude.{◌≡◌, ℕ, ◌*◌, ◌^◌, ◌<◌, ℤ, List, Option, Some}
use Rattle.rv_isa.specs.declared.instr.ROp.{ROp}
use Rattle.rv_isa.specs.declared.instr.ROp.TheVariants as r
use Rattle.rv_isa.specs.declared.instr.IOp.{IOp}
use Rattle.rv_isa.specs.declared.instr.IOp.TheVariants.{Addi, Addiw, Slti, Sltiu, Andi, Slli, Srli, Ld, Lbu, Lhu, Lwu}
use Rattle.rv_isa.specs.declared.instr.UOp.TheVariants.{Lui, Auipc}
use Rattle.rv_isa.specs.declared.instr.Instr.{Instr}
use Rattle.rv_isa.specs.declared.instr.Instr.TheVariants.{R, I, S, B, U, J, Ecall}
use Rattle.rv_isa.specs.InstrWords.{twos}
use Rattle.rv_emulate.specs.EmulatorMemory.{Memory, loaded, stored}
use Rattle.rv_emulate.specs.InstrValues.{sum64, extended, r_value, s_width}

-- a value of 64 bits goes to a register; a value goes there of which that is to be said, as one that is loaded; a memory is left; a branch, a jump and a call are something else
pub data Effect : Type 0 where
  Puts : ℕ → Effect
  Loads : Option ℕ → Effect
  Stores : Option Memory → Effect
  Other : Effect

abbrev pub r_effect : ROp → ℕ → Effect
r_effect r.Add v = Puts v
r_effect r.Sub v = Puts v
r_effect r.Sll v = Puts v
r_effect r.Srl v = Puts v
r_effect r.Slt v = Puts v
r_effect r.Sltu v = Puts v
r_effect r.Xor v = Puts v
r_effect r.Or v = Puts v
r_effect r.And v = Puts v
r_effect r.Mul v = Puts v
r_effect r.Divu v = Puts v
r_effect r.Remu v = Puts v
r_effect _ v = Loads (Some v)

abbrev pub i_effect : List ℕ → Memory → IOp → ℕ → ℤ → Effect
i_effect constants m Addi x imm = Puts (sum64 x (twos 64 imm))
i_effect constants m Addiw x imm = Puts (r_value r.Addw x (twos 64 imm))
i_effect constants m Slti x imm = Puts (r_value r.Slt x (twos 64 imm))
i_effect constants m Sltiu x imm = Puts (r_value r.Sltu x (twos 64 imm))
i_effect constants m Andi x imm = Puts (r_value r.And x (twos 64 imm))
i_effect constants m Slli x imm = Puts (r_value r.Sll x (twos 64 imm))
i_effect constants m Srli x imm = Puts (r_value r.Srl x (twos 64 imm))
i_effect constants m Ld x imm = Loads (loaded constants m 8 (sum64 x (twos 64 imm)))
i_effect constants m Lbu x imm = Loads (loaded constants m 1 (sum64 x (twos 64 imm)))
i_effect constants m Lhu x imm = Loads (loaded constants m 2 (sum64 x (twos 64 imm)))
i_effect constants m Lwu x imm = Loads (loaded constants m 4 (sum64 x (twos 64 imm)))
i_effect constants m _ x imm = Other

-- the effect of an instruction at a place, by what its registers hold
abbrev pub effect : List ℕ → Memory → ℕ → (ℕ → ℕ) → Instr → Effect
effect constants m pc x (R op rd rs1 rs2) = r_effect op (r_value op (x rs1) (x rs2))
effect constants m pc x (I op rd rs1 imm) = i_effect constants m op (x rs1) imm
effect constants m pc x (S op rs1 rs2 imm) = Stores (stored m (s_width op) (sum64 (x rs1) (twos 64 imm)) (x rs2))
effect constants m pc x (U Lui rd imm) = Puts (extended (imm * 2 ^ 12))
effect constants m pc x (U Auipc rd imm) = Puts (sum64 pc (extended (imm * 2 ^ 12)))
effect constants m pc x _ = Other

-- what is said of an effect: the value that goes to the register, or the memory that is left
pub data Given : Type 0 where
  Value : ℕ → Given
  Leaves : Memory → Given

-- what is said is so, and the value has 64 bits
abbrev pub Gives : Effect → Given → Type 0
Gives (Puts v) (Value w) = v ≡ w
Gives (Loads o) (Value w) = (o ≡ Some w) × (w < 2 ^ 64)
Gives (Stores o) (Leaves m) = o ≡ Some m
Gives _ _ = ⊥

-- the register that an instruction writes
abbrev pub target : Instr → ℕ
target (R op rd rs1 rs2) = rd
target (I op rd rs1 imm) = rd
target (S op rs1 rs2 imm) = 0
target (B op rs1 rs2 imm) = 0
target (U op rd imm) = rd
target (J rd imm) = rd
target Ecall = 0
