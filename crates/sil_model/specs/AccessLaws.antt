-- Laws of access: what was written is read, what is apart stays, and each write leaves as many cells, which fit.
use Rattle.std.specs.Prelude.{◌≡◌, ◌≢◌, ℕ, ◌<◌, Option, Some, None, ℤ, FitsSigned, slice_get}
use Rattle.std.specs.Int.{w64}
use Rattle.layout_params.specs.declared.cell.Descr.{Descr as Descriptor}
use Rattle.layout_params.specs.declared.cell.Cell.{Cell}
use Rattle.layout_params.specs.declared.cell.Field.{Field}
use Rattle.sil_model.specs.Access.{byte_place, cell_number, cell_at, set_cell_at, descr_at, set_descr_at, set_whole_at, field_at, set_field_at, char_at, set_char_at, chars_or_zeros}
use Rattle.sil_model.specs.FieldBits.{FitsBits, bits_at, set_bits_at}
use Rattle.sil_model.specs.CellWords.{kind_at, set_kind_at, word_at, set_word_at}
use Rattle.sil_model.specs.Memory.{Memory, IsMemory, SameShape, FitsCell}

-- what was written is read
pub record WrittenIsRead : Type 0 where
  pub cell : (m m' : Memory) (at : ℤ) (cell : Cell) → set_cell_at m at cell ≡ Some m' → cell_at m' at ≡ Some cell
  pub descr : (m m' : Memory) (at : ℤ) (d : Descriptor) → set_descr_at m at d ≡ Some m' → descr_at m' at ≡ Some d
  pub field : (m m' : Memory) (at : ℤ) (field : Field) (x : ℤ) → set_field_at m at field x ≡ Some m' → field_at m' at field ≡ Some x
  pub bits : (m m' : Memory) (at : ℤ) (field : Field) (bits : ℕ) → IsMemory m → FitsBits m.limits field bits → set_bits_at m at field bits ≡ Some m' → bits_at m' at field ≡ Some bits
  pub char : (m m' : Memory) (at : ℤ) (c : ℕ) → IsMemory m → set_char_at m at c ≡ Some m' → char_at m' at ≡ Some c
  pub word : (m m' : Memory) (at x : ℤ) → IsMemory m → FitsSigned w64 x → set_word_at m at x ≡ Some m' → word_at m' at ≡ Some x
  pub kind : (m m' : Memory) (i kind : ℤ) → set_kind_at m i kind ≡ Some m' → kind_at m' i ≡ Some kind

-- what is apart stays: other cells, other fields of a cell, and other characters; those of a descriptor become 0, and it is none any more
pub record ApartStays : Type 0 where
  pub cells : (m m' : Memory) (at other : ℤ) (cell : Cell) → set_cell_at m at cell ≡ Some m' → cell_number m other ≢ cell_number m at → cell_at m' other ≡ cell_at m other
  pub fields : (m m' : Memory) (at : ℤ) (field other : Field) (x : ℤ) → set_field_at m at field x ≡ Some m' → other ≢ field → field_at m' at other ≡ field_at m at other
  pub beside : (m m' : Memory) (at other : ℤ) (c : ℕ) (p : ℕ × ℕ) → byte_place m at ≡ Some p → set_char_at m at c ≡ Some m' → cell_number m other ≢ Some p.0 → cell_at m' other ≡ cell_at m other
  pub chars : (m m' : Memory) (at other : ℤ) (c : ℕ) (p q : ℕ × ℕ) (cell : Cell) → byte_place m at ≡ Some p → byte_place m other ≡ Some q → slice_get m.cells p.0 ≡ Some cell → set_char_at m at c ≡ Some m' → q.0 ≡ p.0 → q.1 ≢ p.1 → char_at m' other ≡ slice_get (chars_or_zeros cell) q.1
  pub descr : (m m' : Memory) (at other : ℤ) (c : ℕ) (p : ℕ × ℕ) → byte_place m at ≡ Some p → set_char_at m at c ≡ Some m' → cell_number m other ≡ Some p.0 → descr_at m' other ≡ None

-- a write that finds its place leaves a memory of the same shape
abbrev pub LeavesMemory : Memory → Option Memory → Type 0
LeavesMemory m o = (m' : Memory) → o ≡ Some m' → IsMemory m' × SameShape m m'

pub record WritesKeepMemory : Type 0 where
  pub cell : (m : Memory) (at : ℤ) (cell : Cell) → IsMemory m → FitsCell m.limits cell → LeavesMemory m (set_cell_at m at cell)
  pub whole : (m : Memory) (at a flags value : ℤ) → IsMemory m → FitsSigned w64 a → LeavesMemory m (set_whole_at m at a flags value)
  pub field : (m : Memory) (at : ℤ) (field : Field) (x : ℤ) → IsMemory m → FitsSigned w64 x → LeavesMemory m (set_field_at m at field x)
  pub bits : (m : Memory) (at : ℤ) (field : Field) (bits : ℕ) → IsMemory m → FitsBits m.limits field bits → LeavesMemory m (set_bits_at m at field bits)
  pub char : (m : Memory) (at : ℤ) (c : ℕ) → IsMemory m → c < 256 → LeavesMemory m (set_char_at m at c)
  pub word : (m : Memory) (at x : ℤ) → IsMemory m → LeavesMemory m (set_word_at m at x)
  pub kind : (m : Memory) (i kind : ℤ) → IsMemory m → LeavesMemory m (set_kind_at m i kind)

pub record LawOfAccess : Type 0 where
  pub reads : WrittenIsRead
  pub stays : ApartStays
  pub keeps : WritesKeepMemory
