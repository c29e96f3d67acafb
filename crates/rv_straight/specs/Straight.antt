-- Code without branches, on a list of writes to registers and one memory.
use Rattle.std.specs.Prelude.{ℕ, suc, ◌+◌, ◌*◌, List, [], ◌∷◌}
use Rattle.rv_isa.specs.declared.instr.Instr.{Instr}
use Rattle.rv_emulate.specs.EmulatorMemory.{Memory}
use Rattle.rv_emulate.specs.EmulatorStates.{State}
use Rattle.rv_straight.specs.Registers.{Writes, written, read}
use Rattle.rv_straight.specs.InstrEffects.{effect, Given, Value, Leaves, Gives, target}

abbrev pub writes_with : Writes → Instr → Given → Writes
writes_with ws i (Value v) = (target i, v) ∷ ws
writes_with ws i (Leaves m) = ws

abbrev pub memory_with : Memory → Given → Memory
memory_with m (Value v) = m
memory_with m (Leaves n) = n

-- each of the instructions, the k-th and later ones from a place on, does what is said of it
abbrev pub Follow : List ℕ → List ℕ → ℕ → ℕ → Writes → Memory → List Instr → List Given → Type 0
Follow constants xs p k ws m [] gs = Unit {0}
Follow constants xs p k ws m (i ∷ is) [] = ⊥
Follow constants xs p k ws m (i ∷ is) (g ∷ gs) =
    Gives (effect constants m (p + 4 * k) (read xs ws) i) g × Follow constants xs p (suc k) (writes_with ws i g) (memory_with m g) is gs

-- what all of them have written, and the memory that they leave
abbrev pub writes_after : Writes → List Instr → List Given → Writes
writes_after ws [] gs = ws
writes_after ws (i ∷ is) [] = ws
writes_after ws (i ∷ is) (g ∷ gs) = writes_after (writes_with ws i g) is gs

abbrev pub memory_after : Memory → List Instr → List Given → Memory
memory_after m [] gs = m
memory_after m (i ∷ is) [] = m
memory_after m (i ∷ is) (g ∷ gs) = memory_after (memory_with m g) is gs

-- the state at a place with these writes and this memory
abbrev pub at : State → ℕ → Writes → Memory → State
at s pc ws m = record s { pc = pc; registers = written s.registers ws; memory = m }

-- one after another
infixr 5 ◌▸◌
abbrev pub ◌▸◌ : {A B : Type 0} → A → B → A × B
a ▸ b = (a, b)
