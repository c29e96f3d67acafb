-- The laws of access.
use Rattle.std.proofs.Common.{◌≡◌, ℕ, ◌∙◌, Option, Some, None, ℤ, refl, ap, arith}
use Rattle.std.specs.Prelude.{FitsSigned}
use Rattle.std.specs.Int.{w64}
use Rattle.std.proofs.Math.Facts.{sfits_to_z, Fits-of_lt}
use Rattle.std.proofs.lemmas.Int.{of_z-to_z}
use Rattle.layout_params.specs.declared.cell.Descr.{Descr as Descriptor}
use Rattle.layout_params.specs.declared.cell.Field.{Field}
use Rattle.layout_params.specs.declared.cell.Field.TheVariants.{A, F, V}
use Rattle.layout_params.specs.Packing.{set_field}
use Rattle.sil_model.specs.declared.limits.Limits.{Limits}
use Rattle.sil_model.specs.Memory.{Memory, IsMemory, FitsDescr}
use Rattle.sil_model.specs.Access.{◌>>=◌, set_field_at}
use Rattle.sil_model.specs.FieldBits.{bits_of, FitsBits, bits_at, set_bits_at}
use Rattle.sil_model.specs.AccessLaws.{LawOfAccess, LeavesMemory}
use Rattle.sil_model.proofs.Keeps.{Writes, writes_read, writes_set_cell, writes_set_descr, writes_set_whole, writes_set_a, writes_set_f, writes_set_v, fits_descr_at}
use Rattle.sil_model.proofs.Characters.{writes_set_char, writes_set_word, writes_set_kind}
use Rattle.sil_model.proofs.Reading.{from_descr, cell_read, descr_read, field_read, fields_stay}
use Rattle.sil_model.proofs.ReadingChars.{cells_stay, char_read, chars_beside, chars_stay, no_descr, kind_read, word_read}

leaves : (m : Memory) (o : Option Memory) → Writes m o → LeavesMemory m o
unfolding Writes
leaves m None h m' is = absurd (grind (arith, is))
leaves m (Some n) h m' is = (let same : n ≡ m' = cc in rw (← same) (h.is_memory, h.shape))

-- ---- bits

bits_fit : (limits : Limits) (field : Field) (bits : ℕ) (d : Descriptor) → FitsBits limits field bits → FitsDescr limits d → FitsDescr limits (set_field field bits d)
bits_fit limits A bits d fits h = (sfits_to_z (Fits-of_lt fits), h.1, h.2)
bits_fit limits F bits d fits h = (h.0, fits, h.2)
bits_fit limits V bits d fits h = (h.0, h.1, fits)

writes_set_bits : (m : Memory) (at : ℤ) (field : Field) (bits : ℕ) → IsMemory m → FitsBits m.limits field bits → Writes m (set_bits_at m at field bits)
writes_set_bits m at field bits h fits = writes_read m _ _ (λ d is. writes_set_descr m at (set_field field bits d) h (bits_fit m.limits field bits d fits (fits_descr_at m at d h is)))

bits_back : (limits : Limits) (field : Field) (bits : ℕ) (d : Descriptor) → FitsBits limits field bits → bits_of (set_field field bits d) field ≡ bits
bits_back limits A bits d fits = of_z-to_z w64 bits fits
bits_back limits F bits d fits = refl
bits_back limits V bits d fits = refl

bits_read : (m m' : Memory) (at : ℤ) (field : Field) (bits : ℕ) → IsMemory m → FitsBits m.limits field bits → set_bits_at m at field bits ≡ Some m' → bits_at m' at field ≡ Some bits
bits_read m m' at field bits h fits is =
    let found = from_descr m at _ m' is in
    let new = set_field field bits found.0 in
    ap (λ o. o >>= (λ d. Some (bits_of d field))) (descr_read m m' at new found.2) ∙ ap Some (bits_back m.limits field bits found.0 fits)

writes_set_field : (m : Memory) (at : ℤ) (field : Field) (x : ℤ) → IsMemory m → FitsSigned w64 x → Writes m (set_field_at m at field x)
writes_set_field m at A x h fits = writes_set_a m at x h fits
writes_set_field m at F x h fits = writes_set_f m at x h
writes_set_field m at V x h fits = writes_set_v m at x h

pub access : LawOfAccess
access = record {
  reads = record { cell = cell_read; descr = descr_read; field = field_read; bits = bits_read; char = char_read; word = word_read; kind = kind_read };
  stays = record { cells = cells_stay; fields = fields_stay; beside = chars_beside; chars = chars_stay; descr = no_descr };
  keeps = record {
    cell = λ m at cell h fits. leaves m _ (writes_set_cell m at cell h fits);
    whole = λ m at a flags value h fits. leaves m _ (writes_set_whole m at a flags value h fits);
    field = λ m at field x h fits. leaves m _ (writes_set_field m at field x h fits);
    bits = λ m at field bits h fits. leaves m _ (writes_set_bits m at field bits h fits);
    char = λ m at c h byte. leaves m _ (writes_set_char m at c h byte);
    word = λ m at x h. leaves m _ (writes_set_word m at x h);
    kind = λ m i kind h. leaves m _ (writes_set_kind m i kind h);
  };
}
