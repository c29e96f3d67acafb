-- The kinds of cells, and the words of their bytes.
use Rattle.std.specs.Prelude.{ℕ, zero, suc, ◌%◌, List, replicate, Option, Some, None, ℤ, pos, negsuc, ◌==◌, if◌then◌else◌, slice_get, slice_set}
use Rattle.std.specs.Int.{w64, cast_unsigned, cast_signed}
use Rattle.sil_base.specs.Bytes.{number, low_bytes, piece, with_piece}
use Rattle.layout_params.specs.declared.cell.Cell.{Cell}
use Rattle.layout_params.specs.declared.cell.Cell.TheVariants.{Descr, Chars}
use Rattle.sil_model.specs.Access.{◌>>=◌, byte_place, chars_of, with_cells}
use Rattle.sil_model.specs.Memory.{Memory}

-- 0 for a descriptor, 1 for characters
abbrev pub kind_of : Cell → ℕ
kind_of (Descr d) = 0
kind_of (Chars chars) = 1

-- the kind of the cell of a number
unfoldable pub kind_at : Memory → ℤ → Option ℤ
kind_at m (negsuc i) = None
kind_at m (pos i) = do
  cell ← slice_get m.cells i
  Some (pos (kind_of cell))

-- the descriptor of zeros, or characters that are zeros
abbrev pub cell_of_kind : ℤ → Option Cell
cell_of_kind (pos zero) = Some (Descr (record { a = pos 0; f = 0; v = 0 }))
cell_of_kind (pos (suc zero)) = Some (Chars (replicate 64 0))
cell_of_kind _ = None

-- the cells after the kind of one is set
unfoldable pub put_kind : Memory → ℤ → ℤ → Option (List Cell)
put_kind m (negsuc i) kind = None
put_kind m (pos i) kind = do
  was ← slice_get m.cells i
  cell ← cell_of_kind kind
  Some (slice_set m.cells i cell)

abbrev pub set_kind_at : Memory → ℤ → ℤ → Option Memory
set_kind_at m i kind = with_cells m (put_kind m i kind)

-- the place of a word: its address is a multiple of 8
abbrev pub word_place : Memory → ℤ → Option (ℕ × ℕ)
word_place m (negsuc at) = None
word_place m (pos at) = if at % 8 == 0 then byte_place m (pos at) else None

-- the word at an address in a cell of characters, the lowest byte first
unfoldable pub word_at : Memory → ℤ → Option ℤ
word_at m at = do
  place ← word_place m at
  cell ← slice_get m.cells place.0
  chars ← chars_of cell
  Some (cast_signed w64 (number (piece place.1 8 chars)))

-- the cells with another word there
unfoldable pub put_word : Memory → ℤ → ℤ → Option (List Cell)
put_word m at word = do
  place ← word_place m at
  cell ← slice_get m.cells place.0
  chars ← chars_of cell
  Some (slice_set m.cells place.0 (Chars (with_piece place.1 (low_bytes 8 (cast_unsigned w64 word)) chars)))

abbrev pub set_word_at : Memory → ℤ → ℤ → Option Memory
set_word_at m at word = with_cells m (put_word m at word)
