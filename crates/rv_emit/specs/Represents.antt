-- What a state of the emulator stands for.
use Rattle.std.specs.Prelude.{◌≡◌, ℕ, ◌+◌, ◌*◌, ◌<◌, ◌^◌, List, length, Some, slice_get, slice_index}
use Rattle.std.specs.List.{flat_map}
use Rattle.std.specs.Int.{w64, cast_unsigned}
use Rattle.sil_base.specs.Bytes.{number, piece}
use Rattle.layout_params.specs.declared.cell.Cell.{Cell}
use Rattle.layout_params.specs.Sizes.{Sizes}
use Rattle.layout_params.specs.Packing.{IsPacked}
use Rattle.layout_params.specs.Parameters.{Settings}
use Rattle.sil_model.specs.States as machine
use Rattle.sil_model.specs.CellWords.{kind_of}
use Rattle.rv_operations.specs.EntryBytes.{table_part}
use Rattle.rv_routines.specs.Holds.{HoldsBytes}
use Rattle.sil_base.specs.declared.limits.TheConstants.{SCRATCH_BYTES}
use Rattle.rv_emulate.specs.EmulatorMemory.{Memory}
use Rattle.rv_emulate.specs.EmulatorStates.{State, register, steps_left}

-- each cell's bytes are packed from the cell, and its kind byte tells what it is
pub record PackedCells (sizes : Sizes) (cells : List Cell) (m : Memory) : Type 0 where
  pub size : length m.cells ≡ length cells * sizes.descr
  pub kinds_size : length m.kinds ≡ length cells
  pub packed : (i : ℕ) (cell : Cell) → slice_get cells i ≡ Some cell → IsPacked sizes cell (piece (i * sizes.descr) sizes.descr m.cells)
  pub kinds : (i : ℕ) (cell : Cell) → slice_get cells i ≡ Some cell → slice_get m.kinds i ≡ Some (kind_of cell)

-- the words that keep current and previous are the first two of the scratch region
pub record KeepsStack (m : machine.State) (memory : Memory) : Type 0 where
  pub size : length memory.scratch ≡ SCRATCH_BYTES
  pub current : number (piece 0 8 memory.scratch) ≡ cast_unsigned w64 m.current
  pub previous : number (piece 8 8 memory.scratch) ≡ cast_unsigned w64 m.previous

-- the state of the emulator stands for the state of the machine, in a run of at most n steps
pub record Represents (settings : Settings) (n : ℕ) (m : machine.State) (s : State) : Type 0 where
  pub file : length s.registers ≡ 32
  pub small : (r : ℕ) → slice_index s.registers r < 2 ^ 64
  pub cells : PackedCells settings.sizes m.memory.cells s.memory
  pub bytes : HoldsBytes s.memory
  pub tables : s.memory.tables ≡ flat_map table_part m.tables
  pub stack : KeepsStack m s.memory
  pub bound : register s.registers 25 ≡ n
  pub left : steps_left s + m.steps ≡ n
  pub tapes : s.tapes ≡ m.tapes
