-- What contracts see of a Cpu.
use Rattle.std.specs.Prelude.{◌≡◌, ℕ, Bool, true, List, map, Option, Some, None, is_some}
use Rattle.unit_io.specs.Tapes.{Tapes}
use Rattle.rv_isa.specs.declared.instr.Instr.{Instr}
use Rattle.rv_isa.specs.Decoded.{decoded}
use Rattle.image_file.specs.Image.{Image}
use Rattle.rv_emulate.specs.declared.end.CpuEnd.{CpuEnd}
use Rattle.rv_emulate.specs.declared.end.CpuStep.{CpuStep}
use Rattle.rv_emulate.specs.declared.end.CpuStep.TheVariants as steps
use Rattle.rv_emulate.specs.EmulatorMemory.{Memory}
use Rattle.rv_emulate.specs.EmulatorStates.{State, Outcome, On, Ended}

-- the instructions of its image's words, none where a word is no instruction, its constants, and its statements' places; the place of the next instruction, the registers and the memory; the unit of the last unit call where that call failed; and how its run has ended, if it has
pub record CpuState : Type 0 where
  pub code : List (Option Instr)
  pub constants : List ℕ
  pub places : List ℕ
  pub pc : ℕ
  pub registers : List ℕ
  pub memory : Memory
  pub failed : Option ℕ
  pub ended : Option CpuEnd

-- it runs this image
pub record IsOf (image : Image) (cpu : CpuState) : Type 0 where
  pub code : cpu.code ≡ map decoded image.words
  pub constants : cpu.constants ≡ image.constants
  pub places : cpu.places ≡ map (λ e. e.place) image.statements

-- the state that it is in, with the tapes of its units
abbrev pub state : CpuState → Tapes → State
state cpu tapes = record { pc = cpu.pc; registers = cpu.registers; memory = cpu.memory; tapes = tapes; failed = cpu.failed }

abbrev pub stands_with : Option CpuEnd → State → Outcome
stands_with None s = On s
stands_with (Some e) s = Ended (Some e) s.tapes

-- where its run stands: in a state, or at its end
abbrev pub stands : CpuState → Tapes → Outcome
stands cpu tapes = stands_with cpu.ended (state cpu tapes)

-- whether the units tell what was done: a run that comes to one that doesn't tell its tape has no end
abbrev pub is_told : Outcome → Bool
is_told (On s) = true
is_told (Ended end tapes) = is_some end

-- it runs the same image
pub record SameImage (old new : CpuState) : Type 0 where
  pub code : new.code ≡ old.code
  pub constants : new.constants ≡ old.constants
  pub places : new.places ≡ old.places

-- the answer of a step, by how the run has ended
abbrev pub answer_of : Option CpuEnd → CpuStep
answer_of None = steps.Next
answer_of (Some e) = steps.Ended e

-- what holds where a step has ended
abbrev pub IfEnded : CpuStep → (CpuEnd → Type 0) → Type 0
IfEnded steps.Next P = Unit {0}
IfEnded (steps.Ended e) P = P e
