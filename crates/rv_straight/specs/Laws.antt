-- The laws of straight code, constants and jumps.
use Rattle.std.specs.Prelude.{◌≡◌, ℕ, ◌+◌, ◌-◌, ◌*◌, ◌%◌, ◌^◌, ◌<◌, List, [], ◌∷◌, length, take, drop, false, if◌then◌else◌}
use Rattle.rv_isa.specs.declared.instr.BOp.{BOp}
use Rattle.rv_isa.specs.declared.instr.Instr.{Instr}
use Rattle.image_file.specs.Image.{Image}
use Rattle.rv_emulate.specs.EmulatorMemory.{Memory}
use Rattle.rv_emulate.specs.EmulatorStates.{State, Outcome, On, register}
use Rattle.rv_emulate.specs.EmulatorSteps.{act, next_with}
use Rattle.rv_emulate.specs.InstrValues.{taken}
use Rattle.rv_straight.specs.InstalledWays.{Comes}
use Rattle.rv_straight.specs.Registers.{Writes, IsFile}
use Rattle.rv_straight.specs.InstrEffects.{effect, Given, Value, Leaves, Gives, target}
use Rattle.rv_straight.specs.Straight.{Follow, writes_after, memory_after, at}
use Rattle.rv_straight.specs.Code.{AreInstrs, IsNext}
use Rattle.rv_straight.specs.Constants.{constant_code, constant_length}
use Rattle.rv_straight.specs.Jumps.{leap_code, jump_if_code}
use Rattle.rv_straight.specs.Reaching.{Reaches}

-- where an instruction leads that does what is said of it
abbrev pub after : State → ℕ → Given → Outcome
after s rd (Value v) = next_with s rd v
after s rd (Leaves m) = On (record s { pc = s.pc + 4; memory = m })

-- the table of effects is the emulator's
abbrev pub LawOfEffects : Type 0
LawOfEffects =
    (image : Image) (s : State) (i : Instr) (g : Given)
    → Gives (effect image.constants s.memory s.pc (λ q. register s.registers q) i) g
    → act image i s ≡ after s (target i) g

-- the next j instructions of a code run as is said of them
abbrev pub LawOfStraightCode : Type 0
LawOfStraightCode =
    (image : Image) (last : ℕ) (s : State) (code : List Instr) (c : IsNext image last s code) (n k : ℕ) (ws : Writes) (m : Memory) (j : ℕ) (gs : List Given)
    → Reaches c n k ws m → 0 < j → k + j < length code
    → Follow image.constants s.registers s.pc k ws m (take j (drop k code)) gs
    → Reaches c (n + j) (k + j) (writes_after ws (take j (drop k code)) gs) (memory_after m (take j (drop k code)) gs)

-- the instructions of a constant put it into its register, and change nothing else
abbrev pub LawOfConstants : Type 0
LawOfConstants =
    (image : Image) (last : ℕ) (s : State) (rd n : ℕ) (c : IsNext image last s (constant_code rd n))
    → 0 < rd → rd < 32 → n < 2 ^ 64 → IsFile s.registers
    → Comes image last false (constant_length n) s (On (at s (s.pc + 4 * constant_length n) ((rd, n) ∷ []) s.memory))

-- a conditional jump goes to its place where the comparison holds, and past its three instructions where it doesn't; of the registers it changes x28 alone
abbrev pub LawOfJumps : Type 0
LawOfJumps =
    (image : Image) (last : ℕ) (s : State) (op : BOp) (rs1 rs2 to : ℕ) (c : IsNext image last s (jump_if_code op rs1 rs2 s.pc to))
    → to < 2 ^ 31 - 2 ^ 12 → to % 4 ≡ 0 → IsFile s.registers
    → (x : ℕ) × Comes image last false 3 s (On (at s (if taken op (register s.registers rs1) (register s.registers rs2) then to else s.pc + 12) (if taken op (register s.registers rs1) (register s.registers rs2) then (28, x) ∷ [] else []) s.memory))

-- all these instructions have words
abbrev pub LawOfWords : Type 0
LawOfWords =
    (op : BOp) (rd rs1 rs2 n place to : ℕ) → rd < 32 → rs1 < 32 → rs2 < 32 → n < 2 ^ 64
    → AreInstrs (constant_code rd n) × AreInstrs (leap_code rs1 rd place to) × AreInstrs (jump_if_code op rs1 rs2 place to)
