-- How cells, their fields and their characters are reached by addresses. None stands for what isn't found.
use Rattle.std.specs.Prelude.{ℕ, ◌-◌, ◌/◌, ◌%◌, List, length, replicate, Option, Some, None, option_and_then, nat_le, nat_lt, ◌==◌, ◌&&◌, if◌then◌else◌, ℤ, pos, negsuc, slice_get, slice_set}
use Rattle.layout_params.specs.declared.cell.Descr.{Descr as Descriptor}
use Rattle.layout_params.specs.declared.cell.Cell.{Cell}
use Rattle.layout_params.specs.declared.cell.Cell.TheVariants.{Descr, Chars}
use Rattle.layout_params.specs.declared.cell.Field.{Field}
use Rattle.layout_params.specs.declared.cell.Field.TheVariants.{A, F, V}
use Rattle.sil_base.specs.declared.places.TheConstants.{FIRST_CELL}
use Rattle.sil_model.specs.Integers.{within}
use Rattle.sil_model.specs.Memory.{Memory}

infixl 10 ◌>>=◌
abbrev pub ◌>>=◌ : {A B : Type 0} → Option A → (A → Option B) → Option B
o >>= f = option_and_then f o

-- ---- places

-- the number of the cell that an address lies in, and the place in that cell
unfoldable pub byte_place : Memory → ℤ → Option (ℕ × ℕ)
byte_place m (pos at) =
    let offset = at - FIRST_CELL in
    if nat_le FIRST_CELL at && nat_lt (offset / m.limits.cell_size) (length m.cells)
    then Some (offset / m.limits.cell_size, offset % m.limits.cell_size)
    else None
byte_place m (negsuc at) = None

-- the number of the cell whose address this is
unfoldable pub cell_number : Memory → ℤ → Option ℕ
cell_number m at = do
  place ← byte_place m at
  if place.1 == 0 then Some place.0 else None

-- the memory with another cell in place of the one of a number
abbrev pub with_cell : Memory → ℕ → Cell → Memory
with_cell m i cell = record m { cells = slice_set m.cells i cell }

-- the memory with other cells
abbrev pub with_cells : Memory → Option (List Cell) → Option Memory
with_cells m o = do
  cells ← o
  Some (record m { cells = cells })

-- ---- cells, whatever they hold

-- the cell at an address
unfoldable pub cell_at : Memory → ℤ → Option Cell
cell_at m at = do
  i ← cell_number m at
  slice_get m.cells i

-- the cells with another one at an address
unfoldable pub put_cell : Memory → ℤ → Cell → Option (List Cell)
put_cell m at cell = do
  i ← cell_number m at
  Some (slice_set m.cells i cell)

abbrev pub set_cell_at : Memory → ℤ → Cell → Option Memory
set_cell_at m at cell = with_cells m (put_cell m at cell)

-- ---- descriptors

abbrev pub descr_of : Cell → Option Descriptor
descr_of (Descr d) = Some d
descr_of (Chars chars) = None

-- the descriptor at an address, where the cell there is one
unfoldable pub descr_at : Memory → ℤ → Option Descriptor
descr_at m at = do
  cell ← cell_at m at
  descr_of cell

-- a whole write makes the cell a descriptor
abbrev pub set_descr_at : Memory → ℤ → Descriptor → Option Memory
set_descr_at m at d = set_cell_at m at (Descr d)

-- a whole write of three integers, where they fit
abbrev pub set_whole_at : Memory → ℤ → ℤ → ℤ → ℤ → Option Memory
set_whole_at m at a flags value = do
  f ← within m.limits.flag_limit flags
  v ← within m.limits.value_limit value
  set_descr_at m at (record { a = a; f = f; v = v })

-- an integer, with 0 as F and V
abbrev pub integer_alone : ℤ → Descriptor
integer_alone a = record { a = a; f = 0; v = 0 }

-- ---- fields, which are those of a descriptor alone; a write keeps the other two

abbrev pub a_at : Memory → ℤ → Option ℤ
a_at m at = do
  d ← descr_at m at
  Some d.a

abbrev pub f_at : Memory → ℤ → Option ℕ
f_at m at = do
  d ← descr_at m at
  Some d.f

abbrev pub v_at : Memory → ℤ → Option ℕ
v_at m at = do
  d ← descr_at m at
  Some d.v

abbrev pub set_a_at : Memory → ℤ → ℤ → Option Memory
set_a_at m at a = do
  d ← descr_at m at
  set_descr_at m at (record d { a = a })

-- F and V are written where the integer fits
abbrev pub set_f_at : Memory → ℤ → ℤ → Option Memory
set_f_at m at flags = do
  d ← descr_at m at
  f ← within m.limits.flag_limit flags
  set_descr_at m at (record d { f = f })

abbrev pub set_v_at : Memory → ℤ → ℤ → Option Memory
set_v_at m at value = do
  d ← descr_at m at
  v ← within m.limits.value_limit value
  set_descr_at m at (record d { v = v })

-- a field as an integer
abbrev pub field_of : Descriptor → Field → ℤ
field_of d A = d.a
field_of d F = pos d.f
field_of d V = pos d.v

abbrev pub field_at : Memory → ℤ → Field → Option ℤ
field_at m at field = do
  d ← descr_at m at
  Some (field_of d field)

abbrev pub set_field_at : Memory → ℤ → Field → ℤ → Option Memory
set_field_at m at A value = set_a_at m at value
set_field_at m at F value = set_f_at m at value
set_field_at m at V value = set_v_at m at value

-- ---- characters

abbrev pub chars_of : Cell → Option (List ℕ)
chars_of (Descr d) = None
chars_of (Chars chars) = Some chars

-- the same, where a descriptor counts as zeros
abbrev pub chars_or_zeros : Cell → List ℕ
chars_or_zeros (Descr d) = replicate 64 0
chars_or_zeros (Chars chars) = chars

-- the character at an address, where the cell there is characters
unfoldable pub char_at : Memory → ℤ → Option ℕ
char_at m at = do
  place ← byte_place m at
  cell ← slice_get m.cells place.0
  chars ← chars_of cell
  slice_get chars place.1

-- the cells with another character at an address, whose cell becomes characters
unfoldable pub put_char : Memory → ℤ → ℕ → Option (List Cell)
put_char m at c = do
  place ← byte_place m at
  cell ← slice_get m.cells place.0
  Some (slice_set m.cells place.0 (Chars (slice_set (chars_or_zeros cell) place.1 c)))

abbrev pub set_char_at : Memory → ℤ → ℕ → Option Memory
set_char_at m at c = with_cells m (put_char m at c)

-- what a call leaves in memory: nothing is said where it fails
abbrev pub written : Option (Unit {0}) → Memory → Option Memory
written None m = None
written (Some done) m = Some m
