-- What an instruction does, by the RISC-V unprivileged manual (RV64I and M).
use Rattle.std.specs.Prelude.{ℕ, ◌+◌, ◌-◌, ◌*◌, ◌/◌, ◌%◌, ◌^◌, ℤ, Bool, true, false, ◌&&◌, ◌==◌, nat_le, List, length, Option, Some, None, option_map, if◌then◌else◌, slice_get}
use Rattle.rv_isa.specs.declared.instr.ROp.TheVariants as r
use Rattle.rv_isa.specs.declared.instr.IOp.{IOp}
use Rattle.rv_isa.specs.declared.instr.IOp.TheVariants.{Addi, Slti, Sltiu, Xori, Ori, Andi, Slli, Srli, Srai, Lb, Lh, Lw, Ld, Lbu, Lhu, Lwu, Jalr, Addiw, Slliw, Srliw, Sraiw, Fence}
use Rattle.rv_isa.specs.declared.instr.UOp.TheVariants.{Lui, Auipc}
use Rattle.rv_isa.specs.declared.instr.Instr.{Instr}
use Rattle.rv_isa.specs.declared.instr.Instr.TheVariants.{R, I, S, B, U, J, Ecall}
use Rattle.rv_isa.specs.InstrWords.{twos}
use Rattle.rv_isa.specs.Decoded.{decoded}
use Rattle.sil_base.specs.declared.places.TheConstants.{FIRST_WORD}
use Rattle.unit_io.specs.Numbered.{unit_at}
use Rattle.unit_io.specs.Tapes.{TapeState, with_tape}
use Rattle.unit_calls.specs.CallsMade.{Made, absent, unit_number}
use Rattle.image_file.specs.Image.{Image}
use Rattle.rv_emulate.specs.declared.end.CpuEnd.{CpuEnd}
use Rattle.rv_emulate.specs.declared.end.CpuEnd.TheVariants.{Illegal, Fetch, Load, Store}
use Rattle.rv_emulate.specs.EmulatorMemory.{Memory, loaded, stored}
use Rattle.rv_emulate.specs.EmulatorStates.{State, Outcome, On, Ended, register, with_register, statement_number}
use Rattle.rv_emulate.specs.Ecalls.{call, is_unit_call, made_by, memory_after}
pub use Rattle.rv_emulate.specs.InstrValues.{sum64, extended_from, extended, r_value, taken, s_width}

abbrev pub ends_with : CpuEnd → State → Outcome
ends_with end s = Ended (Some end) s.tapes

-- to the next place
abbrev pub next : State → Outcome
next s = On (record s { pc = s.pc + 4 })

-- to the next place, with v in the register rd
abbrev pub next_with : State → ℕ → ℕ → Outcome
next_with s rd v = On (record s { pc = s.pc + 4; registers = with_register s.registers rd v })

-- to a place, with the next one in the register rd
abbrev pub jump : State → ℕ → ℕ → Outcome
jump s rd to = On (record s { pc = to; registers = with_register s.registers rd (s.pc + 4) })

abbrev pub load_step : State → ℕ → Option ℕ → Outcome
load_step s rd None = ends_with (Load s.pc) s
load_step s rd (Some v) = next_with s rd v

abbrev pub store_step : State → Option Memory → Outcome
store_step s None = ends_with (Store s.pc) s
store_step s (Some m) = On (record s { pc = s.pc + 4; memory = m })

-- n bytes from an address go to the register rd
abbrev pub loads : Image → State → ℕ → ℕ → ℕ → Outcome
loads image s rd n address = load_step s rd (loaded image.constants s.memory n address)

-- n bytes from an address, extended by their sign, go to the register rd
abbrev pub loads_signed : Image → State → ℕ → ℕ → ℕ → Outcome
loads_signed image s rd n address = load_step s rd (option_map (extended_from (8 * n)) (loaded image.constants s.memory n address))

-- an instruction of format I, with x in its source register: one with an immediate in the place of a second register, a load, JALR, or FENCE, which does nothing
abbrev pub i_step : Image → IOp → State → ℕ → ℕ → ℤ → Outcome
i_step image Addi s rd x imm = next_with s rd (sum64 x (twos 64 imm))
i_step image Slti s rd x imm = next_with s rd (r_value r.Slt x (twos 64 imm))
i_step image Sltiu s rd x imm = next_with s rd (r_value r.Sltu x (twos 64 imm))
i_step image Xori s rd x imm = next_with s rd (r_value r.Xor x (twos 64 imm))
i_step image Ori s rd x imm = next_with s rd (r_value r.Or x (twos 64 imm))
i_step image Andi s rd x imm = next_with s rd (r_value r.And x (twos 64 imm))
i_step image Slli s rd x imm = next_with s rd (r_value r.Sll x (twos 64 imm))
i_step image Srli s rd x imm = next_with s rd (r_value r.Srl x (twos 64 imm))
i_step image Srai s rd x imm = next_with s rd (r_value r.Sra x (twos 64 imm))
i_step image Addiw s rd x imm = next_with s rd (r_value r.Addw x (twos 64 imm))
i_step image Slliw s rd x imm = next_with s rd (r_value r.Sllw x (twos 64 imm))
i_step image Srliw s rd x imm = next_with s rd (r_value r.Srlw x (twos 64 imm))
i_step image Sraiw s rd x imm = next_with s rd (r_value r.Sraw x (twos 64 imm))
i_step image Lb s rd x imm = loads_signed image s rd 1 (sum64 x (twos 64 imm))
i_step image Lh s rd x imm = loads_signed image s rd 2 (sum64 x (twos 64 imm))
i_step image Lw s rd x imm = loads_signed image s rd 4 (sum64 x (twos 64 imm))
i_step image Ld s rd x imm = loads image s rd 8 (sum64 x (twos 64 imm))
i_step image Lbu s rd x imm = loads image s rd 1 (sum64 x (twos 64 imm))
i_step image Lhu s rd x imm = loads image s rd 2 (sum64 x (twos 64 imm))
i_step image Lwu s rd x imm = loads image s rd 4 (sum64 x (twos 64 imm))
i_step image Jalr s rd x imm = jump s rd (sum64 x (twos 64 imm) / 2 * 2)
i_step image Fence s rd x imm = next s

-- the unit of a call, where it failed
abbrev pub failed_unit : Bool → ℕ → Option ℕ
failed_unit false unit = None
failed_unit true unit = Some unit

-- the number of the unit that a call names in a0
abbrev pub unit_of : State → ℕ
unit_of s = unit_number (register s.registers 10)

-- a call on a unit was made: its answer is in a0
abbrev pub answered : State → Made → Memory → Outcome
answered s made m = On (record s { pc = s.pc + 4; registers = with_register s.registers 10 made.answer; memory = m; tapes = with_tape s.tapes (unit_of s) made.tape; failed = failed_unit made.failed (unit_of s) })

-- a call on what has the unit's number: an absent unit gives its answer, and no call on it fails; there is no end where the unit doesn't tell its tape
abbrev pub answer_on : Image → State → Option (Option TapeState) → Outcome
answer_on image s None = On (record s { pc = s.pc + 4; registers = with_register s.registers 10 absent; failed = None })
answer_on image s (Some None) = Ended None s.tapes
answer_on image s (Some (Some t)) = answered s (made_by image.constants s.memory s.registers t) (memory_after s.memory s.registers t)

abbrev pub answer : Image → State → Outcome
answer image s = answer_on image s (unit_at s.tapes (unit_of s))

-- the end by any other call
abbrev pub ended : Image → State → Outcome
ended image s = ends_with (call (length image.statements) (register s.registers 17) (register s.registers 10) (statement_number s) s.failed s.pc) s

abbrev pub ecall : Image → State → Outcome
ecall image s = if is_unit_call image.constants s.memory s.registers then answer image s else ended image s

abbrev pub act : Image → Instr → State → Outcome
act image (R op rd rs1 rs2) s = next_with s rd (r_value op (register s.registers rs1) (register s.registers rs2))
act image (I op rd rs1 imm) s = i_step image op s rd (register s.registers rs1) imm
act image (S op rs1 rs2 imm) s = store_step s (stored s.memory (s_width op) (sum64 (register s.registers rs1) (twos 64 imm)) (register s.registers rs2))
act image (B op rs1 rs2 imm) s = On (record s { pc = if taken op (register s.registers rs1) (register s.registers rs2) then sum64 s.pc (twos 64 imm) else s.pc + 4 })
act image (U Lui rd imm) s = next_with s rd (extended (imm * 2 ^ 12))
act image (U Auipc rd imm) s = next_with s rd (sum64 s.pc (extended (imm * 2 ^ 12)))
act image (J rd imm) s = jump s rd (sum64 s.pc (twos 64 imm))
act image Ecall s = ecall image s

abbrev pub with_instr : Image → Option Instr → State → Outcome
with_instr image None s = ends_with (Illegal s.pc) s
with_instr image (Some i) s = act image i s

abbrev pub with_word : Image → Option ℕ → State → Outcome
with_word image None s = ends_with (Fetch s.pc) s
with_word image (Some w) s = with_instr image (decoded w) s

-- the word at a place of the code, which is a multiple of 4
abbrev pub word_at : List ℕ → ℕ → Option ℕ
word_at words pc = if (pc % 4 == 0) && nat_le FIRST_WORD pc then slice_get words ((pc - FIRST_WORD) / 4) else None

unfoldable pub step : Image → State → Outcome
step image s = with_word image (word_at image.words s.pc) s
