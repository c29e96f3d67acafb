-- When the emulator's memory holds the cells of the abstract machine.
use Rattle.std.specs.Prelude.{◌≡◌, ◌≢◌, ℕ, ◌+◌, ◌*◌, ◌^◌, ◌≤◌, length, Some, slice_get}
use Rattle.sil_base.specs.Bytes.{piece, AreBytes}
use Rattle.sil_base.specs.declared.limits.TheConstants.{SCRATCH_BYTES}
use Rattle.layout_params.specs.declared.cell.Cell.{Cell}
use Rattle.layout_params.specs.Sizes.{Sizes, flag_limit, value_limit}
use Rattle.layout_params.specs.Packing.{IsPacked}
use Rattle.sil_model.specs.Memory as abstract
use Rattle.sil_model.specs.Memory.{IsMemory}
use Rattle.sil_model.specs.CellWords.{kind_of}
use Rattle.rv_emulate.specs.EmulatorMemory.{Memory}

-- all regions hold bytes
pub record HoldsBytes (m : Memory) : Type 0 where
  pub cells : AreBytes m.cells
  pub kinds : AreBytes m.kinds
  pub tables : AreBytes m.tables
  pub scratch : AreBytes m.scratch

-- each cell's bytes are packed from the cell, and its kind byte tells what it is
pub record HoldsMemory (sizes : Sizes) (model : abstract.Memory) (m : Memory) : Type 0 where
  pub limit : model.limits.cell_size ≡ sizes.descr
  pub flags : model.limits.flag_limit ≡ flag_limit sizes
  pub values : model.limits.value_limit ≡ value_limit sizes
  pub valid : IsMemory model
  pub size : length m.cells ≡ length model.cells * sizes.descr
  pub kinds_size : length m.kinds ≡ length model.cells
  pub tables_size : length m.tables ≤ 2 ^ 20
  pub scratch_size : length m.scratch ≡ SCRATCH_BYTES
  pub packed : (i : ℕ) (cell : Cell) → slice_get model.cells i ≡ Some cell → IsPacked sizes cell (piece (i * sizes.descr) sizes.descr m.cells)
  pub kinds : (i : ℕ) (cell : Cell) → slice_get model.cells i ≡ Some cell → slice_get m.kinds i ≡ Some (kind_of cell)
  pub bytes : HoldsBytes m

-- memories of cells of d bytes differ in the bytes and the kind of the i-th one alone
pub record DifferInCell (d i : ℕ) (m after : Memory) : Type 0 where
  pub size : length after.cells ≡ length m.cells
  pub kinds_size : length after.kinds ≡ length m.kinds
  pub there : (j : ℕ) → j ≢ i → j * d + d ≤ length m.cells → piece (j * d) d after.cells ≡ piece (j * d) d m.cells
  pub other : (j : ℕ) → j ≢ i → slice_get after.kinds j ≡ slice_get m.kinds j
  pub tables : after.tables ≡ m.tables
  pub scratch : after.scratch ≡ m.scratch
  pub bytes : HoldsBytes m → HoldsBytes after
