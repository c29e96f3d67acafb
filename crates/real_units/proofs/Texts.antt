-- Records in a text.
use Rattle.std.proofs.Common.{◌≡◌, ◌≢◌, ℕ, suc, List, [], ◌∷◌, ◌++◌, All, refl, ap, ◌∙◌, arith}
use Rattle.sil_base.specs.Lines.{onto_lines}
use Rattle.real_units.specs.RecordTexts.{records_in, record_text, text_of, IsOneLine}

-- these bytes, one by one, in front of the first record
abbrev pub onto_all : List ℕ → List (List ℕ) → List (List ℕ)
onto_all [] records = records
onto_all (byte ∷ bytes) records = onto_lines byte (onto_all bytes records)

pub records_in-cons : (byte : ℕ) (text : List ℕ) → byte ≢ 10 → records_in (byte ∷ text) ≡ onto_lines byte (records_in text)
records_in-cons byte text other = grind arith

pub onto_all-cons : (bytes more : List ℕ) (records : List (List ℕ)) → onto_all bytes (more ∷ records) ≡ (bytes ++ more) ∷ records
onto_all-cons [] more records = refl
onto_all-cons (byte ∷ bytes) more records = rw (onto_all-cons bytes more records) refl

pub onto_all-none : (byte : ℕ) (bytes : List ℕ) → onto_all (byte ∷ bytes) [] ≡ (byte ∷ bytes) ∷ []
onto_all-none byte [] = refl
onto_all-none byte (next ∷ bytes) = ap (onto_lines byte) (onto_all-none next bytes)

pub onto_all-more : (bytes : List ℕ) (byte : ℕ) (records : List (List ℕ)) → onto_all bytes (onto_lines byte records) ≡ onto_all (bytes ++ byte ∷ []) records
onto_all-more [] byte records = refl
onto_all-more (first ∷ bytes) byte records = ap (onto_lines first) (onto_all-more bytes byte records)

-- a record that is written is the first that is read
pub records_in-record : (bytes text : List ℕ) → IsOneLine bytes → records_in (record_text bytes ++ text) ≡ bytes ∷ records_in text
records_in-record [] text line = refl
records_in-record (byte ∷ bytes) text line =
    records_in-cons byte (record_text bytes ++ text) (line 0 0 (omega arith)) ∙ ap (onto_lines byte) (records_in-record bytes text (λ k d h. line (suc k) d (omega arith)))

pub records_in-text_of : (records : List (List ℕ)) → All IsOneLine records → records_in (text_of records) ≡ records
records_in-text_of [] lines = refl
records_in-text_of (bytes ∷ records) lines =
    records_in-record bytes (text_of records) (lines 0 [] (omega arith)) ∙ ap (λ rest. bytes ∷ rest) (records_in-text_of records (λ k d h. lines (suc k) d (omega arith)))
