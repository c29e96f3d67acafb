-- A packing is packed, has as many bytes as a descriptor, and is made of bytes.
use Rattle.std.proofs.Common.{◌≡◌, ℕ, zero, suc, ◌+◌, ◌*◌, ◌^◌, ◌<◌, ◌≤◌, ◌⊎◌, inl, inr, List, length, replicate, refl, sym, ap, subst, ◌∙◌, arith}
use Rattle.std.specs.Prelude.{ℤ, IsTrue, FitsSigned}
use Rattle.std.specs.Int.{w64, cast_unsigned, cast_signed}
use Rattle.std.proofs.Math.Facts.{Fits-of_z, Fits-lt-pow, Fits-of_lt, sfits_to_z}
use Rattle.std.proofs.Math.Nat.{pow-le-pow_right}
use Rattle.std.proofs.lemmas.Int.{to_z-of_z, of_z-to_z}
use Rattle.std.proofs.lemmas.Nat.{pow-add}
use Rattle.std.proofs.lemmas.Bool.{cases_lt}
use Rattle.std.proofs.lemmas.List.{length-replicate, length-take-le, get_or-replicate, get_or_past}
use Rattle.sil_base.specs.Bytes.{number, low_bytes, piece, with_piece, AreBytes}
use Rattle.sil_base.proofs.Numbers.{length-low_bytes, number-low_bytes, low_bytes_below, length-with_piece, piece-with_piece, piece-with_piece_apart, AreBytes-piece, AreBytes-with_piece}
use Rattle.layout_params.specs.declared.cell.Descr.{Descr as Descriptor}
use Rattle.layout_params.specs.declared.cell.Cell.{Cell}
use Rattle.layout_params.specs.declared.cell.Cell.TheVariants.{Descr, Chars}
use Rattle.layout_params.specs.Sizes.{Sizes, is_legal}
use Rattle.layout_params.specs.Packing.{PacksDescr, IsPacked, with_fields, packing, FitsFields, fields_of}
use Rattle.layout_params.specs.Laws.{FitsInteger, AreCharacters}
use Rattle.layout_params.proofs.LegalLayouts.{IsLegal, legal}

-- ---- a field

pow_bytes : (n : ℕ) → 2 ^ (8 * n) ≡ 256 ^ n
pow_bytes zero = refl
pow_bytes (suc n) =
    let e : 8 * suc n ≡ 8 + 8 * n = omega arith in
    let rest = pow_bytes n in
    ap (λ k. 2 ^ k) e ∙ pow-add 2 8 (8 * n) ∙ ap (λ k. 256 * k) rest ∙ sym (pow-add 256 1 n) ∙ ap (λ k. 256 ^ k) (omega arith)

fits_bytes : (n v : ℕ) → v < 2 ^ (8 * n) → v < 256 ^ n
fits_bytes n v h = subst (λ k. v < k) (pow_bytes n) h

pub length-with_low : (at n v : ℕ) (bytes : List ℕ) → at + n ≤ length bytes → length (with_piece at (low_bytes n v) bytes) ≡ length bytes
length-with_low at n v bytes h = length-with_piece at (low_bytes n v) bytes (omega (arith, length-low_bytes n v))

-- a field that was written is read
pub number_here : (at n v : ℕ) (bytes : List ℕ) → at + n ≤ length bytes → v < 2 ^ (8 * n) → number (piece at n (with_piece at (low_bytes n v) bytes)) ≡ v
number_here at n v bytes h fits =
    ap (λ k. number (piece at k (with_piece at (low_bytes n v) bytes))) (sym (length-low_bytes n v))
    ∙ ap number (piece-with_piece at (low_bytes n v) bytes (omega (arith, length-low_bytes n v)))
    ∙ number-low_bytes n v (fits_bytes n v fits)

-- a field that is apart stays
pub number_there : (j m at n v : ℕ) (bytes : List ℕ) → at + n ≤ length bytes → (j + m ≤ at) ⊎ (at + n ≤ j) → number (piece j m (with_piece at (low_bytes n v) bytes)) ≡ number (piece j m bytes)
number_there j m at n v bytes h apart =
    let size = length-low_bytes n v in
    let apart' : (j + m ≤ at) ⊎ (at + length (low_bytes n v) ≤ j) = elim apart [ inl p ↦ inl p | inr p ↦ inr (omega arith) ] in
    ap number (piece-with_piece_apart j m at (low_bytes n v) bytes (omega arith) apart')

turned : (x n y m : ℕ) → (x + n ≤ y) ⊎ (y + m ≤ x) → (y + m ≤ x) ⊎ (x + n ≤ y)
turned x n y m h = elim h [ inl p ↦ inr p | inr p ↦ inl p ]

-- ---- the fields of a descriptor

module _ (s : Sizes) (d : Descriptor) (bytes : List ℕ) (size : length bytes ≡ s.descr) (fit : IsLegal s) where
  abbrev with_a : List ℕ
  with_a = with_piece s.a_at (low_bytes 8 (cast_unsigned w64 d.a)) bytes

  abbrev with_f : List ℕ
  with_f = with_piece s.f_at (low_bytes s.f_len d.f) with_a

  a_room : s.a_at + 8 ≤ length bytes
  a_room = omega (arith, fit.a_within)

  length-with_a : length with_a ≡ s.descr
  length-with_a = length-with_low s.a_at 8 (cast_unsigned w64 d.a) bytes a_room ∙ size

  f_room : s.f_at + s.f_len ≤ length with_a
  f_room = omega (arith, fit.f_within, length-with_a)

  length-with_f : length with_f ≡ s.descr
  length-with_f = length-with_low s.f_at s.f_len d.f with_a f_room ∙ length-with_a

  v_room : s.v_at + s.v_len ≤ length with_f
  v_room = omega (arith, fit.v_within, length-with_f)

  length-with_fields : length (with_fields s d bytes) ≡ s.descr
  length-with_fields = length-with_low s.v_at s.v_len d.v with_f v_room ∙ length-with_f

  with_fields-packed : FitsSigned w64 d.a → d.f < 2 ^ (8 * s.f_len) → d.v < 2 ^ (8 * s.v_len) → PacksDescr s d (with_fields s d bytes)
  with_fields-packed a_fits f_fits v_fits = record {
    size = length-with_fields;
    a =
        number_there s.a_at 8 s.v_at s.v_len d.v with_f v_room fit.a_v_apart
        ∙ number_there s.a_at 8 s.f_at s.f_len d.f with_a f_room fit.a_f_apart
        ∙ number_here s.a_at 8 (cast_unsigned w64 d.a) bytes a_room (Fits-lt-pow (Fits-of_z a_fits));
    f =
        number_there s.f_at s.f_len s.v_at s.v_len d.v with_f v_room fit.f_v_apart
        ∙ number_here s.f_at s.f_len d.f with_a f_room f_fits;
    v = number_here s.v_at s.v_len d.v with_f v_room v_fits;
  }

-- ---- a write of one field

abbrev of_fields : ℤ → ℕ → ℕ → Descriptor
of_fields a f v = record { a = a; f = f; v = v }

pub a-written : (s : Sizes) (d : Descriptor) (bytes : List ℕ) (a : ℤ) → IsTrue (is_legal s) → FitsSigned w64 a → PacksDescr s d bytes → PacksDescr s (record { a = a; f = d.f; v = d.v }) (with_piece s.a_at (low_bytes 8 (cast_unsigned w64 a)) bytes)
a-written s d bytes a h fits old =
    let fit = legal s h in
    let room : s.a_at + 8 ≤ length bytes = omega (arith, fit.a_within, old.size) in
    record {
      size = length-with_low s.a_at 8 (cast_unsigned w64 a) bytes room ∙ old.size;
      a = number_here s.a_at 8 (cast_unsigned w64 a) bytes room (Fits-lt-pow (Fits-of_z fits));
      f = number_there s.f_at s.f_len s.a_at 8 (cast_unsigned w64 a) bytes room (turned s.a_at 8 s.f_at s.f_len fit.a_f_apart) ∙ old.f;
      v = number_there s.v_at s.v_len s.a_at 8 (cast_unsigned w64 a) bytes room (turned s.a_at 8 s.v_at s.v_len fit.a_v_apart) ∙ old.v;
    }

pub f-written : (s : Sizes) (d : Descriptor) (bytes : List ℕ) (f : ℕ) → IsTrue (is_legal s) → f < 2 ^ (8 * s.f_len) → PacksDescr s d bytes → PacksDescr s (record { a = d.a; f = f; v = d.v }) (with_piece s.f_at (low_bytes s.f_len f) bytes)
f-written s d bytes f h fits old =
    let fit = legal s h in
    let room : s.f_at + s.f_len ≤ length bytes = omega (arith, fit.f_within, old.size) in
    record {
      size = length-with_low s.f_at s.f_len f bytes room ∙ old.size;
      a = number_there s.a_at 8 s.f_at s.f_len f bytes room fit.a_f_apart ∙ old.a;
      f = number_here s.f_at s.f_len f bytes room fits;
      v = number_there s.v_at s.v_len s.f_at s.f_len f bytes room (turned s.f_at s.f_len s.v_at s.v_len fit.f_v_apart) ∙ old.v;
    }

pub v-written : (s : Sizes) (d : Descriptor) (bytes : List ℕ) (v : ℕ) → IsTrue (is_legal s) → v < 2 ^ (8 * s.v_len) → PacksDescr s d bytes → PacksDescr s (record { a = d.a; f = d.f; v = v }) (with_piece s.v_at (low_bytes s.v_len v) bytes)
v-written s d bytes v h fits old =
    let fit = legal s h in
    let room : s.v_at + s.v_len ≤ length bytes = omega (arith, fit.v_within, old.size) in
    record {
      size = length-with_low s.v_at s.v_len v bytes room ∙ old.size;
      a = number_there s.a_at 8 s.v_at s.v_len v bytes room fit.a_v_apart ∙ old.a;
      f = number_there s.f_at s.f_len s.v_at s.v_len v bytes room fit.f_v_apart ∙ old.f;
      v = number_here s.v_at s.v_len v bytes room fits;
    }

same_fields : {a b : ℤ} {f g v w : ℕ} → a ≡ b → f ≡ g → v ≡ w → of_fields a f v ≡ of_fields b g w
same_fields a_is f_is v_is = cc

-- bytes stand for one descriptor
pub PacksDescr-one : (s : Sizes) (d e : Descriptor) (bytes : List ℕ) → FitsSigned w64 d.a → FitsSigned w64 e.a → PacksDescr s d bytes → PacksDescr s e bytes → d ≡ e
PacksDescr-one s d e bytes d_fits e_fits p q =
    let a_bits : cast_unsigned w64 d.a ≡ cast_unsigned w64 e.a = sym p.a ∙ q.a in
    let a_is : d.a ≡ e.a = sym (to_z-of_z w64 d.a d_fits) ∙ ap (cast_signed w64) a_bits ∙ to_z-of_z w64 e.a e_fits in
    let f_is : d.f ≡ e.f = sym p.f ∙ q.f in
    let v_is : d.v ≡ e.v = sym p.v ∙ q.v in
    same_fields a_is f_is v_is

-- three writes, one after another, are the fields
pub fields_written : {zeros xs ys zs : List ℕ} {a_at f_at f_len v_at v_len a f : ℕ} (s : Sizes) (d : Descriptor) → zeros ≡ replicate s.descr 0 → xs ≡ with_piece a_at (low_bytes 8 a) zeros → ys ≡ with_piece f_at (low_bytes f_len f) xs → zs ≡ with_piece v_at (low_bytes v_len d.v) ys → a_at ≡ s.a_at → f_at ≡ s.f_at → f_len ≡ s.f_len → v_at ≡ s.v_at → v_len ≡ s.v_len → a ≡ cast_unsigned w64 d.a → f ≡ d.f → zs ≡ with_fields s d (replicate s.descr 0)
fields_written s d zeros_is xs_is ys_is zs_is a_at_is f_at_is f_len_is v_at_is v_len_is a_is f_is = cc

-- ---- a cell

-- a packing has as many bytes as a descriptor
pub length-packing : (s : Sizes) (cell : Cell) → IsTrue (is_legal s) → AreCharacters cell → length (packing s cell) ≡ s.descr
unfolding packing
length-packing s (Descr d) h given = length-with_fields s d (replicate s.descr 0) (length-replicate s.descr 0) (legal s h)
length-packing s (Chars chars) h given =
    let most = (legal s h).most in
    let size = given.0 in
    length-take-le s.descr chars (omega arith)

-- a packing is packed
pub packing-packed : (s : Sizes) (cell : Cell) → IsTrue (is_legal s) → FitsFields s cell → FitsInteger cell → IsPacked s cell (packing s cell)
unfolding packing
packing-packed s (Descr d) h fits whole = with_fields-packed s d (replicate s.descr 0) (length-replicate s.descr 0) (legal s h) whole fits.0 fits.1
packing-packed s (Chars chars) h fits whole = refl

zeros_below : (n : ℕ) → AreBytes (replicate n 0)
zeros_below n i = elim (cases_lt i n) [ inl lt ↦ rw (get_or-replicate {A = ℕ} n i 0 0 lt) (omega arith) | inr le ↦ rw (get_or_past {X = ℕ} (replicate n 0) i 0 (omega (arith, length-replicate {A = ℕ} n 0))) (omega arith) ]

-- a packing is made of bytes
pub packing_below : (s : Sizes) (cell : Cell) → AreCharacters cell → AreBytes (packing s cell)
unfolding packing
packing_below s (Descr d) given =
    let zeros = replicate s.descr 0 in
    let with_a = with_piece s.a_at (low_bytes 8 (cast_unsigned w64 d.a)) zeros in
    let with_f = with_piece s.f_at (low_bytes s.f_len d.f) with_a in
    let a_below = AreBytes-with_piece s.a_at (low_bytes 8 (cast_unsigned w64 d.a)) zeros (low_bytes_below 8 (cast_unsigned w64 d.a)) (zeros_below s.descr) in
    let f_below = AreBytes-with_piece s.f_at (low_bytes s.f_len d.f) with_a (low_bytes_below s.f_len d.f) a_below in
    AreBytes-with_piece s.v_at (low_bytes s.v_len d.v) with_f (low_bytes_below s.v_len d.v) f_below
packing_below s (Chars chars) given = AreBytes-piece 0 s.descr chars given.1

-- ---- fields that are read

-- n bytes at most make a number below 256 ^ n
pub pow_at_most : (k n : ℕ) → k ≤ n → 256 ^ k ≤ 256 ^ n
pow_at_most k n h =
    let positive : 0 < 256 = omega arith in
    pow-le-pow_right positive h

-- A is written by its bits
pub a_bits-written : (s : Sizes) (d : Descriptor) (bytes : List ℕ) (value : ℕ) → IsTrue (is_legal s) → value < 2 ^ 64 → PacksDescr s d bytes → PacksDescr s (record { a = cast_signed w64 value; f = d.f; v = d.v }) (with_piece s.a_at (low_bytes 8 value) bytes)
a_bits-written s d bytes value h small old =
    let written = a-written s d bytes (cast_signed w64 value) h (sfits_to_z (Fits-of_lt small)) old in
    subst (λ (n : ℕ). PacksDescr s (of_fields (cast_signed w64 value) d.f d.v) (with_piece s.a_at (low_bytes 8 n) bytes)) (of_z-to_z w64 value small) written

-- the fields of bytes are packed in them
pub fields_of-packed : (s : Sizes) (bytes : List ℕ) → length bytes ≡ s.descr → number (piece s.a_at 8 bytes) < 2 ^ 64 → PacksDescr s (fields_of s bytes) bytes
fields_of-packed s bytes size small = record { size = size; a = sym (of_z-to_z w64 (number (piece s.a_at 8 bytes)) small); f = refl; v = refl }

-- what was packed is read
pub fields_of-read : (s : Sizes) (d : Descriptor) (bytes : List ℕ) → FitsSigned w64 d.a → PacksDescr s d bytes → fields_of s bytes ≡ d
fields_of-read s d bytes fits p = same_fields (ap (cast_signed w64) p.a ∙ to_z-of_z w64 d.a fits) p.f p.v

pub fields_read : {a : ℤ} {f v : ℕ} (s : Sizes) (bytes : List ℕ) → a ≡ cast_signed w64 (number (piece s.a_at 8 bytes)) → f ≡ number (piece s.f_at s.f_len bytes) → v ≡ number (piece s.v_at s.v_len bytes) → of_fields a f v ≡ fields_of s bytes
fields_read s bytes a_is f_is v_is = same_fields a_is f_is v_is
