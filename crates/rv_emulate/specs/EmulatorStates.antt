-- The states of the emulator.
use Rattle.std.specs.Prelude.{ℕ, zero, suc, ◌-◌, ◌*◌, List, ◌++◌, length, replicate, Option, None, slice_index, slice_set}
use Rattle.unit_io.specs.Tapes.{Tapes}
use Rattle.layout_params.specs.Areas.{all_cells}
use Rattle.sil_base.specs.declared.places.TheConstants.{FIRST_WORD}
use Rattle.image_file.specs.Image.{Image}
use Rattle.rv_emulate.specs.declared.end.CpuEnd.{CpuEnd}
use Rattle.sil_base.specs.declared.limits.TheConstants.{SCRATCH_BYTES}
use Rattle.rv_emulate.specs.EmulatorMemory.{Memory}

-- the place of the next instruction, the registers x0 to x31, the memory, the tapes of the units, and the unit of the last unit call where that call failed
pub record State : Type 0 where
  pub pc : ℕ
  pub registers : List ℕ
  pub memory : Memory
  pub tapes : Tapes
  pub failed : Option ℕ

-- what an instruction does: it leaves a state, or ends the run with these tapes; there is no end where it calls a unit that doesn't tell its tape
pub data Outcome : Type 0 where
  On : State → Outcome
  Ended : Option CpuEnd → Tapes → Outcome

-- x0 reads 0
abbrev pub register : List ℕ → ℕ → ℕ
register xs zero = 0
register xs (suc r) = slice_index xs (suc r)

abbrev pub with_register : List ℕ → ℕ → ℕ → List ℕ
with_register xs zero v = xs
with_register xs (suc r) v = slice_set xs (suc r) v

-- the steps left stand in s11, the number of the current statement in s10
abbrev pub steps_left : State → ℕ
steps_left s = register s.registers 27

abbrev pub statement_number : State → ℕ
statement_number s = register s.registers 26

-- the bound stands in s9 and s11, and all other registers are 0
abbrev pub first_registers : ℕ → List ℕ
first_registers n = slice_set (slice_set (replicate 32 0) 25 n) 27 n

-- zero bytes after these, up to so many
abbrev pub padded : ℕ → List ℕ → List ℕ
padded size bytes = bytes ++ replicate (size - length bytes) 0

-- the number of all cells of an image
abbrev pub cell_total : Image → ℕ
cell_total image = all_cells image.settings (length image.kinds)

abbrev pub first_memory : Image → Memory
first_memory image = record {
  cells = padded (cell_total image * image.settings.sizes.descr) image.cells;
  kinds = padded (cell_total image) image.kinds;
  tables = image.tables;
  scratch = replicate SCRATCH_BYTES 0;
}

-- the start of a run of at most n statements
unfoldable pub start : Image → Tapes → ℕ → State
start image tapes n = record {
  pc = FIRST_WORD;
  registers = first_registers n;
  memory = first_memory image;
  tapes = tapes;
  failed = None;
}
