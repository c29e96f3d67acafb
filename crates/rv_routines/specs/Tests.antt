-- What the shared routines test, and what they leave in memory.
use Rattle.std.specs.Prelude.{ℕ, zero, suc, ◌+◌, ◌-◌, ◌*◌, ◌/◌, ◌%◌, ◌^◌, ◌==◌, ◌&&◌, nat_lt, List, length, Option, Some, None, if◌then◌else◌, slice_get}
use Rattle.std.specs.Int.{w64, cast_signed}
use Rattle.sil_base.specs.Bytes.{low_bytes, with_piece}
use Rattle.layout_params.specs.declared.cell.Cell.{Cell}
use Rattle.layout_params.specs.declared.cell.Cell.TheVariants.{Descr, Chars}
use Rattle.layout_params.specs.declared.cell.Descr.{Descr as Descriptor}
use Rattle.sil_model.specs.Memory as abstract
use Rattle.sil_model.specs.Access.{◌>>=◌, byte_place, cell_number, descr_at}
use Rattle.rv_emulate.specs.EmulatorMemory.{Memory}
use Rattle.rv_emulate.specs.EmulatorStates.{register}

-- the descriptor at the address in x10
abbrev pub check_test : abstract.Memory → List ℕ → Option Descriptor
check_test memory xs = descr_at memory (cast_signed w64 (register xs 10))

-- the same, where the number in x12 has so many bits
abbrev pub fit_test : ℕ → abstract.Memory → List ℕ → Option Descriptor
fit_test bits memory xs = if nat_lt (register xs 12) (2 ^ bits) then check_test memory xs else None

-- the number of the cell at the address in x10, where the numbers in x12 and x13 have so many bits
abbrev pub open_test : ℕ → ℕ → abstract.Memory → List ℕ → Option ℕ
open_test fbits vbits memory xs =
    if nat_lt (register xs 12) (2 ^ fbits) then if nat_lt (register xs 13) (2 ^ vbits) then cell_number memory (cast_signed w64 (register xs 10)) else None else None

-- the cell is a descriptor then
abbrev pub opened : Memory → ℕ → Memory
opened m i = record m { kinds = with_piece i (low_bytes 1 0) m.kinds }

-- the number of the cell in which an address lies, the place in it, and the cell
abbrev pub cell_around : abstract.Memory → ℕ → Option (ℕ × ℕ × Cell)
cell_around memory x = do
  place ← byte_place memory (cast_signed w64 x)
  cell ← slice_get memory.cells place.0
  Some (place.0, place.1, cell)

-- where the cell has characters
abbrev pub with_chars : ℕ × ℕ × Cell → Option (ℕ × ℕ × List ℕ)
with_chars (i, r, Descr d) = None
with_chars (i, r, Chars chars) = Some (i, r, chars)

-- the characters of the cell in which the address in x10 lies
abbrev pub char_test : abstract.Memory → List ℕ → Option (ℕ × ℕ × List ℕ)
char_test memory xs = do
  around ← cell_around memory (register xs 10)
  with_chars around

-- the same, where the address is a multiple of 8
abbrev pub word_test : abstract.Memory → List ℕ → Option (ℕ × ℕ × List ℕ)
word_test memory xs = if register xs 10 % 8 == 0 then char_test memory xs else None

-- the number in x10, where it is below another
abbrev pub below_test : ℕ → abstract.Memory → List ℕ → Option ℕ
below_test n memory xs = if nat_lt (register xs 10) n then Some (register xs 10) else None

-- n words of zeros from a place on
abbrev pub zeroed : ℕ → ℕ → List ℕ → List ℕ
zeroed at zero bytes = bytes
zeroed at (suc n) bytes = zeroed (at + 8) n (with_piece at (low_bytes 8 0) bytes)

-- the i-th cell of d bytes is zeros of a kind
abbrev pub cleared : ℕ → ℕ → ℕ → Memory → Memory
cleared d i kind m = record m { cells = zeroed (i * d) (d / 8) m.cells; kinds = with_piece i (low_bytes 1 kind) m.kinds }

-- the cell in which the address in x10 lies
abbrev pub make_test : abstract.Memory → List ℕ → Option (ℕ × ℕ × Cell)
make_test memory xs = cell_around memory (register xs 10)

-- where it was a descriptor, it is characters that are zeros then
abbrev pub made : ℕ → Memory → ℕ × ℕ × Cell → Memory
made d m (i, r, Descr e) = cleared d i 1 m
made d m (i, r, Chars chars) = m

-- the number in x10, where it is that of a cell, and the kind in x12
abbrev pub kind_test : abstract.Memory → List ℕ → Option (ℕ × ℕ)
kind_test memory xs = if nat_lt (register xs 12) 2 then if nat_lt (register xs 10) (length memory.cells) then Some (register xs 10, register xs 12) else None else None

abbrev pub kinded : ℕ → Memory → ℕ × ℕ → Memory
kinded d m (i, kind) = cleared d i kind m

-- the word of the scratch region that is written, with its number, or none where the number of steps is left as it is
abbrev pub state_test : abstract.Memory → List ℕ → Option (Option (ℕ × ℕ))
state_test memory xs =
    if nat_lt (register xs 10) 2 then Some (Some (register xs 10, register xs 12))
    else if register xs 10 == 2 && (register xs 12 == (register xs 25 + (2 ^ 64 - register xs 27)) % 2 ^ 64) then Some None
    else None

abbrev pub scratch_written : Memory → ℕ → ℕ → Memory
scratch_written m i v = record m { scratch = with_piece (8 * i) (low_bytes 8 v) m.scratch }

abbrev pub state_written : Memory → Option (ℕ × ℕ) → Memory
state_written m None = m
state_written m (Some (i, v)) = scratch_written m i v
