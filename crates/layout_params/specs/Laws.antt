-- Laws of packings.
use Rattle.std.specs.Prelude.{◌≡◌, ℕ, ℤ, ◌*◌, ◌^◌, ◌<◌, List, length, IsTrue, FitsSigned}
use Rattle.std.specs.Int.{w64, cast_unsigned}
use Rattle.sil_base.specs.Bytes.{AreBytes, low_bytes, with_piece}
use Rattle.layout_params.specs.declared.cell.Descr.{Descr as Descriptor}
use Rattle.layout_params.specs.declared.cell.Cell.{Cell}
use Rattle.layout_params.specs.declared.cell.Cell.TheVariants.{Descr, Chars}
use Rattle.layout_params.specs.Sizes.{Sizes, is_legal}
use Rattle.layout_params.specs.Packing.{PacksDescr, IsPacked, packing, FitsFields, fields_of, DifferInFreeBytes}

-- A has 64 bits
abbrev pub FitsInteger : Cell → Type 0
FitsInteger (Descr d) = FitsSigned w64 d.a
FitsInteger (Chars chars) = Unit {0}

-- characters are 64 bytes
abbrev pub AreCharacters : Cell → Type 0
AreCharacters (Descr d) = Unit {0}
AreCharacters (Chars chars) = (length chars ≡ 64) × AreBytes chars

-- the packing of a cell stands for the cell
abbrev pub PackingsArePacked : Type 0
PackingsArePacked = (s : Sizes) (cell : Cell) → IsTrue (is_legal s) → FitsFields s cell → FitsInteger cell → IsPacked s cell (packing s cell)

-- it has as many bytes as a descriptor
abbrev pub PackingsHaveSize : Type 0
PackingsHaveSize = (s : Sizes) (cell : Cell) → IsTrue (is_legal s) → AreCharacters cell → length (packing s cell) ≡ s.descr

-- it is made of bytes
abbrev pub PackingsAreBytes : Type 0
PackingsAreBytes = (s : Sizes) (cell : Cell) → AreCharacters cell → AreBytes (packing s cell)

-- a field that is written is read, and the other two stay: the bytes stand for the descriptor with that field
abbrev pub WritesOfA : Type 0
WritesOfA =
    (s : Sizes) (d : Descriptor) (bytes : List ℕ) (a : ℤ) → IsTrue (is_legal s) → FitsSigned w64 a → PacksDescr s d bytes
    → PacksDescr s (record { a = a; f = d.f; v = d.v }) (with_piece s.a_at (low_bytes 8 (cast_unsigned w64 a)) bytes)

abbrev pub WritesOfF : Type 0
WritesOfF =
    (s : Sizes) (d : Descriptor) (bytes : List ℕ) (f : ℕ) → IsTrue (is_legal s) → f < 2 ^ (8 * s.f_len) → PacksDescr s d bytes
    → PacksDescr s (record { a = d.a; f = f; v = d.v }) (with_piece s.f_at (low_bytes s.f_len f) bytes)

abbrev pub WritesOfV : Type 0
WritesOfV =
    (s : Sizes) (d : Descriptor) (bytes : List ℕ) (v : ℕ) → IsTrue (is_legal s) → v < 2 ^ (8 * s.v_len) → PacksDescr s d bytes
    → PacksDescr s (record { a = d.a; f = d.f; v = v }) (with_piece s.v_at (low_bytes s.v_len v) bytes)

-- whatever the free bytes are, the same bytes stand for one descriptor
abbrev pub FieldsAreRead : Type 0
FieldsAreRead =
    (s : Sizes) (d e : Descriptor) (bytes : List ℕ) → FitsSigned w64 d.a → FitsSigned w64 e.a → PacksDescr s d bytes → PacksDescr s e bytes → d ≡ e

-- what was packed is read
abbrev pub PackedIsRead : Type 0
PackedIsRead = (s : Sizes) (d : Descriptor) (bytes : List ℕ) → FitsSigned w64 d.a → PacksDescr s d bytes → fields_of s bytes ≡ d

-- free bytes are not read, and bytes that differ in them stand for the same descriptors
abbrev pub FreeBytesAreFree : Type 0
FreeBytesAreFree = (s : Sizes) (xs ys : List ℕ) → DifferInFreeBytes s xs ys → (fields_of s xs ≡ fields_of s ys) × ((d : Descriptor) → PacksDescr s d xs → PacksDescr s d ys)
