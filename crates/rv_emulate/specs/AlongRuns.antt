-- What holds along a run.
use Rattle.std.specs.Prelude.{◌≡◌, ℕ, zero, suc, Some}
use Rattle.rv_isa.specs.declared.instr.Instr.TheVariants.{Ecall}
use Rattle.rv_isa.specs.InstrWords.{word_of}
use Rattle.image_file.specs.Image.{Image}
use Rattle.rv_emulate.specs.EmulatorStates.{State, Outcome, On, Ended, register}
use Rattle.rv_emulate.specs.EmulatorSteps.{step, word_at}

-- each of the next n states, from this one on, is so
abbrev pub Along : Image → (State → Type 0) → ℕ → Outcome → Type 0
Along image P zero o = Unit {0}
Along image P (suc n) (Ended e tapes) = Unit {0}
Along image P (suc n) (On s) = P s × Along image P n (step image s)

-- the next instruction is an ECALL of this number
abbrev pub Calls : Image → ℕ → State → Type 0
Calls image number s = (word_at image.words s.pc ≡ Some (word_of Ecall)) × (register s.registers 17 ≡ number)
