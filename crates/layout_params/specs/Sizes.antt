-- The layout of a descriptor.
use Rattle.std.specs.Prelude.{ℕ, ◌+◌, ◌-◌, ◌*◌, ◌%◌, ◌^◌, min, Bool, ◌&&◌, ◌||◌, ◌==◌, nat_le}

-- the bytes of a descriptor, where its three fields stand, and how wide F and V are; A has eight bytes
pub record Sizes : Type 0 where
  pub descr : ℕ
  pub a_at : ℕ
  pub f_at : ℕ
  pub f_len : ℕ
  pub v_at : ℕ
  pub v_len : ℕ

-- two fields share no byte
abbrev pub are_apart : ℕ → ℕ → ℕ → ℕ → Bool
are_apart x n y m = nat_le (x + n) y || nat_le (y + m) x

-- a descriptor has from 16 to 64 bytes, a multiple of 8
abbrev pub descr_fits : ℕ → Bool
descr_fits d = (d % 8 == 0) && nat_le 16 d && nat_le d 64

-- a field of n bytes stands at a multiple of n within a descriptor
abbrev pub field_fits : ℕ → ℕ → ℕ → Bool
field_fits d at n = (at % n == 0) && nat_le (at + n) d

abbrev pub f_width_fits : ℕ → Bool
f_width_fits n = (n == 1) || (n == 2) || (n == 4)

abbrev pub v_width_fits : ℕ → Bool
v_width_fits n = (n == 2) || (n == 4) || (n == 8)

abbrev pub fields_fit : Sizes → Bool
fields_fit s = field_fits s.descr s.a_at 8 && field_fits s.descr s.f_at s.f_len && field_fits s.descr s.v_at s.v_len

abbrev pub widths_fit : Sizes → Bool
widths_fit s = descr_fits s.descr && f_width_fits s.f_len && v_width_fits s.v_len

abbrev pub fields_apart : Sizes → Bool
fields_apart s = are_apart s.a_at 8 s.f_at s.f_len && are_apart s.a_at 8 s.v_at s.v_len && are_apart s.f_at s.f_len s.v_at s.v_len

-- a legal layout
abbrev pub is_legal : Sizes → Bool
is_legal s = widths_fit s && fields_fit s && fields_apart s

-- the largest F field
abbrev pub flag_limit : Sizes → ℕ
flag_limit s = 2 ^ (8 * s.f_len) - 1

-- the largest V field
abbrev pub value_limit : Sizes → ℕ
value_limit s = min (2 ^ (8 * s.v_len)) (2 ^ 48) - 1

-- sixteen bytes: A in the first eight, F of two bytes at 8, V of four bytes at 12
abbrev pub packed_16 : Sizes
packed_16 = record { descr = 16; a_at = 0; f_at = 8; f_len = 2; v_at = 12; v_len = 4 }

-- twenty-four bytes: A in the first eight, F of four bytes at 8, V of eight bytes at 16
abbrev pub wide_24 : Sizes
wide_24 = record { descr = 24; a_at = 0; f_at = 8; f_len = 4; v_at = 16; v_len = 8 }
