-- Texts of records: which bytes make a record, and which bytes a record makes.
use Rattle.std.specs.Prelude.{◌≡◌, ◌≢◌, ℕ, ◌==◌, Bool, true, List, [], ◌∷◌, ◌++◌, All, if◌then◌else◌}
use Rattle.sil_base.specs.Lines.{onto_lines}

-- the records of a text: one ends before an LF, or at the end of the text where it isn't empty
abbrev pub records_in : List ℕ → List (List ℕ)
records_in [] = []
records_in (byte ∷ text) = if byte == 10 then [] ∷ records_in text else onto_lines byte (records_in text)

-- a record and its LF
abbrev pub record_text : List ℕ → List ℕ
record_text bytes = bytes ++ 10 ∷ []

-- records one after another, each with its LF
abbrev pub text_of : List (List ℕ) → List ℕ
text_of [] = []
text_of (bytes ∷ records) = record_text bytes ++ text_of records

-- the first record of a text, and what is left behind it; it is unended where it lacks its LF
pub record IsFirstRecord (text bytes rest : List ℕ) (unended : Bool) : Type 0 where
  pub text_is : text ≡ (if unended then bytes else record_text bytes) ++ rest
  pub last : unended ≡ true → rest ≡ []
  pub records : records_in text ≡ bytes ∷ records_in rest

-- no byte is an LF
abbrev pub IsOneLine : List ℕ → Type 0
IsOneLine bytes = All (λ byte. byte ≢ 10) bytes
