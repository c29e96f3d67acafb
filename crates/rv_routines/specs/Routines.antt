-- What a shared routine does.
use Rattle.std.specs.Prelude.{◌≡◌, ℕ, ◌-◌, ◌%◌, ◌^◌, ◌<◌, ◌≤◌, Bool, false, nat_le, List, length, Option, Some, None}
use Rattle.layout_params.specs.Sizes.{Sizes}
use Rattle.sil_model.specs.Memory as abstract
use Rattle.image_file.specs.Image.{Image}
use Rattle.rv_emulate.specs.declared.end.CpuEnd.TheVariants.{Undefined}
use Rattle.rv_emulate.specs.EmulatorMemory.{Memory}
use Rattle.rv_emulate.specs.EmulatorStates.{State, On, Ended, register}
use Rattle.rv_straight.specs.InstalledWays.{IsFree, Comes}
use Rattle.rv_straight.specs.Registers.{IsFile, Keeps}
use Rattle.rv_routines.specs.Holds.{HoldsMemory}

-- x10 is the address or the number that a routine looks at, x11 the place that it comes back to, and x12 and x13 are numbers; it changes x28 to x31 alone
abbrev pub is_scratch : ℕ → Bool
is_scratch q = nat_le 28 q

-- the memory is as it was, whatever was found
abbrev pub kept : {A : Type 0} → Memory → A → Memory
kept m a = m

-- a test in a routine: where it finds something the run comes back to the place in x11 within so many instructions, with this memory; else it ends as undefined within so many
abbrev pub Tested : {A : Type 0} → (A → Memory) → Image → ℕ → ℕ → ℕ → State → Option A → Type 0
Tested after image last lost back s None = Comes image last false lost s (Ended (Some (Undefined (register s.registers 26))) s.tapes)
Tested after image last lost back s (Some a) =
    (ys : List ℕ) × Comes image last false back s (On (record s { pc = register s.registers 11; registers = ys; memory = after a })) × IsFile ys × Keeps is_scratch s.registers ys

-- the routine at a place makes a test of each memory of so many cells and of the registers, and leaves a memory by what it found
pub record IsRoutine {A : Type 0} (image : Image) (last : ℕ) (sizes : Sizes) (count place lost back : ℕ) (test : abstract.Memory → List ℕ → Option A) (after : Memory → A → Memory) : Type 0 where
  pub free : IsFree image last place
  pub low : place < 2 ^ 31 - 2 ^ 12
  pub even : place % 4 ≡ 0
  pub runs : (memory : abstract.Memory) (s : State) → length memory.cells ≡ count → s.pc ≡ place → HoldsMemory sizes memory s.memory → IsFile s.registers → register s.registers 26 ≤ length image.statements → register s.registers 11 % 2 ≡ 0 → Tested (after s.memory) image last lost back s (test memory s.registers)
