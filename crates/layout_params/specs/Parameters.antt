-- The parameters of an installation.
use Rattle.std.specs.Prelude.{◌≡◌, ℕ, zero, suc, ◌*◌, ◌^◌, ◌≤◌, List, [], ◌∷◌, length, All, codes, Bool, false, ◌||◌, ◌==◌, IsTrue}
use Rattle.std.specs.List.{list_any}
use Rattle.layout_params.specs.Sizes.{Sizes, is_legal, packed_16}

-- what an image keeps of the parameters: the layout, the flags FNC, MARK, PTR, STTL and TTL, the cells of the stack (STSIZE) and of dynamic storage (DYNSIZ), the buckets (OBSIZ) and the date
pub record Settings : Type 0 where
  pub sizes : Sizes
  pub function_flag : ℕ
  pub mark_flag : ℕ
  pub pointer_flag : ℕ
  pub string_title_flag : ℕ
  pub title_flag : ℕ
  pub stack_size : ℕ
  pub dynamic_size : ℕ
  pub bucket_count : ℕ
  pub date : List ℕ

-- the numbers of settings: DESCR, AOFF, FOFF, FLEN, VOFF, VLEN, FNC, MARK, PTR, STTL, TTL, STSIZE, DYNSIZ and OBSIZ
abbrev pub settings_numbers : Settings → List ℕ
settings_numbers s =
    s.sizes.descr
    ∷ s.sizes.a_at
    ∷ s.sizes.f_at
    ∷ s.sizes.f_len
    ∷ s.sizes.v_at
    ∷ s.sizes.v_len
    ∷ s.function_flag
    ∷ s.mark_flag
    ∷ s.pointer_flag
    ∷ s.string_title_flag
    ∷ s.title_flag
    ∷ s.stack_size
    ∷ s.dynamic_size
    ∷ s.bucket_count
    ∷ []

-- all parameters: with them the numbers of the units for input, output and punch (UNITI, UNITO, UNITP)
pub record Parameters : Type 0 where
  pub settings : Settings
  pub input_unit : ℕ
  pub output_unit : ℕ
  pub punch_unit : ℕ

-- a single bit below 2 ^ w
abbrev pub is_bit_below : ℕ → ℕ → Bool
is_bit_below zero n = false
is_bit_below (suc w) n = (n == 2 ^ w) || is_bit_below w n

-- each is a single bit, and none stands twice
abbrev pub AreBits : ℕ → List ℕ → Type 0
AreBits w [] = Unit {0}
AreBits w (n ∷ ns) = IsTrue (is_bit_below w n) × (list_any (λ m. m == n) ns ≡ false) × AreBits w ns

-- a byte of a date is a printed character or a blank
abbrev pub IsPrinted : ℕ → Type 0
IsPrinted c = (32 ≤ c) × (c ≤ 126)

pub record AreLegalSettings (s : Settings) : Type 0 where
  pub layout : IsTrue (is_legal s.sizes)
  pub flags : AreBits (8 * s.sizes.f_len) (s.function_flag ∷ s.mark_flag ∷ s.pointer_flag ∷ s.string_title_flag ∷ s.title_flag ∷ [])
  pub stack : (16 ≤ s.stack_size) × (s.stack_size ≤ 65536)
  pub dynamic : s.dynamic_size ≤ 900000
  pub buckets : (1 ≤ s.bucket_count) × (s.bucket_count ≤ 4096)
  pub date : (length s.date ≡ 8) × All IsPrinted s.date

abbrev pub IsUnitNumber : ℕ → Type 0
IsUnitNumber n = (1 ≤ n) × (n ≤ 15)

-- parameters that an installation may have
pub record AreLegal (p : Parameters) : Type 0 where
  pub settings : AreLegalSettings p.settings
  pub input : IsUnitNumber p.input_unit
  pub output : IsUnitNumber p.output_unit
  pub punch : IsUnitNumber p.punch_unit

-- the standard parameters
abbrev pub standard : Parameters
standard = record {
  settings = record {
    sizes = packed_16;
    function_flag = 1;
    mark_flag = 2;
    pointer_flag = 4;
    string_title_flag = 8;
    title_flag = 16;
    stack_size = 64;
    dynamic_size = 100;
    bucket_count = 256;
    date = codes "01/01/70";
  };
  input_unit = 5;
  output_unit = 6;
  punch_unit = 7;
}
