-- The bytes of a cell.
use Rattle.std.specs.Prelude.{◌≡◌, ℕ, ◌*◌, ◌^◌, ◌<◌, List, length, take, replicate}
use Rattle.std.specs.Int.{w64, cast_unsigned, cast_signed}
use Rattle.sil_base.specs.Bytes.{number, low_bytes, piece, with_piece}
use Rattle.layout_params.specs.declared.cell.Descr.{Descr as Descriptor}
use Rattle.layout_params.specs.declared.cell.Cell.{Cell}
use Rattle.layout_params.specs.declared.cell.Cell.TheVariants.{Descr, Chars}
use Rattle.layout_params.specs.declared.cell.Field.{Field}
use Rattle.layout_params.specs.declared.cell.Field.TheVariants as field
use Rattle.layout_params.specs.Sizes.{Sizes}

-- A in two's complement, F and V unsigned, all little-endian; the other bytes are free
pub record PacksDescr (s : Sizes) (d : Descriptor) (bytes : List ℕ) : Type 0 where
  pub size : length bytes ≡ s.descr
  pub a : number (piece s.a_at 8 bytes) ≡ cast_unsigned w64 d.a
  pub f : number (piece s.f_at s.f_len bytes) ≡ d.f
  pub v : number (piece s.v_at s.v_len bytes) ≡ d.v

-- the bytes stand for the cell
abbrev pub IsPacked : Sizes → Cell → List ℕ → Type 0
IsPacked s (Descr d) bytes = PacksDescr s d bytes
IsPacked s (Chars chars) bytes = bytes ≡ take s.descr chars

-- the fields of a descriptor in these bytes
abbrev pub with_fields : Sizes → Descriptor → List ℕ → List ℕ
with_fields s d bytes =
    with_piece s.v_at (low_bytes s.v_len d.v) (with_piece s.f_at (low_bytes s.f_len d.f) (with_piece s.a_at (low_bytes 8 (cast_unsigned w64 d.a)) bytes))

-- the bytes of a cell in which every free byte is 0
unfoldable pub packing : Sizes → Cell → List ℕ
packing s (Descr d) = with_fields s d (replicate s.descr 0)
packing s (Chars chars) = take s.descr chars

-- F and V have room in their fields
abbrev pub FitsFields : Sizes → Cell → Type 0
FitsFields s (Descr d) = (d.f < 2 ^ (8 * s.f_len)) × (d.v < 2 ^ (8 * s.v_len))
FitsFields s (Chars chars) = Unit {0}

-- the descriptor in these bytes, whatever the free ones are
abbrev pub fields_of : Sizes → List ℕ → Descriptor
fields_of s bytes = record { a = cast_signed w64 (number (piece s.a_at 8 bytes)); f = number (piece s.f_at s.f_len bytes); v = number (piece s.v_at s.v_len bytes) }

-- where a field stands, and how wide it is
abbrev pub place_of : Sizes → Field → ℕ
place_of s field.A = s.a_at
place_of s field.F = s.f_at
place_of s field.V = s.v_at

abbrev pub width_of : Sizes → Field → ℕ
width_of s field.A = 8
width_of s field.F = s.f_len
width_of s field.V = s.v_len

-- these bytes with another value in a field
abbrev pub with_field : Sizes → Field → ℕ → List ℕ → List ℕ
with_field s field value bytes = with_piece (place_of s field) (low_bytes (width_of s field) value) bytes

-- a descriptor with another field; A is given by its bits
abbrev pub set_field : Field → ℕ → Descriptor → Descriptor
set_field field.A value d = record { a = cast_signed w64 value; f = d.f; v = d.v }
set_field field.F value d = record { a = d.a; f = value; v = d.v }
set_field field.V value d = record { a = d.a; f = d.f; v = value }

-- two lists of a descriptor's bytes are equal but for free bytes
pub record DifferInFreeBytes (s : Sizes) (xs ys : List ℕ) : Type 0 where
  pub size : length xs ≡ length ys
  pub a : piece s.a_at 8 xs ≡ piece s.a_at 8 ys
  pub f : piece s.f_at s.f_len xs ≡ piece s.f_at s.f_len ys
  pub v : piece s.v_at s.v_len xs ≡ piece s.v_at s.v_len ys
