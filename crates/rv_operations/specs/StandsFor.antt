-- When a state of the emulator stands for a state of micro code.
use Rattle.std.specs.Prelude.{◌≡◌, ℕ, ◌+◌, ◌*◌, ◌<◌, ◌≤◌, length, All, FitsSigned}
use Rattle.std.specs.List.{flat_map}
use Rattle.std.specs.Int.{w64, cast_unsigned}
use Rattle.sil_base.specs.Bytes.{number, piece}
use Rattle.layout_params.specs.Areas.{all_cells}
use Rattle.sil_model.specs.WellFormed.{IsTable}
use Rattle.sil_micro.specs.MicroStates.{Setting, Micro, held}
use Rattle.sil_micro.specs.Operations.{scratch_words}
use Rattle.rv_emulate.specs.EmulatorMemory.{Memory}
use Rattle.rv_emulate.specs.EmulatorStates.{State, register}
use Rattle.rv_straight.specs.Registers.{IsFile}
use Rattle.rv_routines.specs.Holds.{HoldsMemory}
use Rattle.rv_operations.specs.Homes.{home}
use Rattle.rv_operations.specs.EntryBytes.{table_part}

-- the scratch region keeps the top of the stack and the one below in its first two words, and the scratch words behind them
pub record HoldsWords (u : Micro) (memory : Memory) : Type 0 where
  pub current : number (piece 0 8 memory.scratch) ≡ cast_unsigned w64 u.state.current
  pub previous : number (piece 8 8 memory.scratch) ≡ cast_unsigned w64 u.state.previous
  pub words : (i : ℕ) → i < scratch_words → number (piece (8 * (i + 2)) 8 memory.scratch) ≡ cast_unsigned w64 (u.scratch i)
  pub current_fits : FitsSigned w64 u.state.current
  pub previous_fits : FitsSigned w64 u.state.previous
  pub words_fit : (i : ℕ) → i < scratch_words → FitsSigned w64 (u.scratch i)

-- the tables' bytes are those of the tables, which are whole
pub record HoldsTables (u : Micro) (memory : Memory) : Type 0 where
  pub bytes : memory.tables ≡ flat_map table_part u.state.tables
  pub count : length u.state.tables ≤ 256
  pub whole : All (IsTable (length u.state.tables)) u.state.tables

-- the state of the emulator stands for the micro state
pub record StandsFor (g : Setting) (u : Micro) (s : State) : Type 0 where
  pub file : IsFile s.registers
  pub registers : (r : ℕ) → r < 16 → register s.registers (home r) ≡ cast_unsigned w64 (held u.registers r)
  pub fit : (r : ℕ) → r < 16 → FitsSigned w64 (held u.registers r)
  pub bound : register s.registers 25 ≡ g.bound
  pub statement : register s.registers 26 ≡ u.state.statement
  pub left : register s.registers 27 + u.state.steps ≡ g.bound
  pub memory : HoldsMemory g.settings.sizes u.state.memory s.memory
  pub count : length u.state.memory.cells ≡ all_cells g.settings g.static_cells
  pub words : HoldsWords u s.memory
  pub tables : HoldsTables u s.memory
  pub tapes : s.tapes ≡ u.state.tapes
  pub failed : s.failed ≡ u.failed
