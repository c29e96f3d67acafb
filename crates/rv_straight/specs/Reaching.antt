-- Ways from the beginning of a code to one of its instructions.
use Rattle.std.specs.Prelude.{ℕ, ◌+◌, ◌*◌, List, Bool}
use Rattle.rv_isa.specs.declared.instr.Instr.{Instr}
use Rattle.image_file.specs.Image.{Image}
use Rattle.rv_emulate.specs.EmulatorMemory.{Memory}
use Rattle.rv_emulate.specs.EmulatorStates.{State, Outcome}
use Rattle.rv_straight.specs.InstalledWays.{Comes}
use Rattle.rv_straight.specs.Registers.{Writes, Knows}
use Rattle.rv_straight.specs.Straight.{at}
use Rattle.rv_straight.specs.Code.{IsNext}

-- in n instructions the run comes to the k-th one, with these writes and this memory: what comes from there comes from the beginning
pub record Reaches {image : Image} {last : ℕ} {s : State} {code : List Instr} (c : IsNext image last s code) (n k : ℕ) (ws : Writes) (m : Memory) : Type 0 where
  pub know : Knows s.registers ws
  pub onward : (prints : Bool) (most : ℕ) (o : Outcome) → Comes image last prints most (at s (s.pc + 4 * k) ws m) o → Comes image last prints (n + most) s o
