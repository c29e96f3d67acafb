-- The texts of the FORMATs of a source.
use Rattle.std.proofs.Common.{◌≡◌, ℕ, ◌+◌, ◌≤◌, Bool, true, false, cond, List, [], ◌∷◌, length, refl, arith}
use Rattle.std.specs.Prelude.{All}
use Rattle.std.specs.List.{list_all, sum_by}
use Rattle.std.proofs.lemmas.List.Elements.{All-nil, All-cons, All-head, All-tail}
use Rattle.std.proofs.lemmas.List.Sums.{sum_by-cons}
use Rattle.sil_format.specs.FormatGrammar.{IsFormat}
use Rattle.sil_format.specs.FormatReading as reading
use Rattle.sil_macros.specs.declared.names.Macro.{Macro}
use Rattle.sil_macros.specs.declared.names.Macro.TheVariants as macros
use Rattle.sil_operands.specs.declared.operand.Operand.{Operand}
use Rattle.sil_symbols.specs.declared.stmt.Stmt.{Stmt}
use Rattle.sil_symbols.specs.StatementParts.{part_of, is_format}
use Rattle.data_asm.specs.DataFaults.{has_format, is_formatted}
use Rattle.data_asm.specs.DataFields.{first_text}
use Rattle.sil_arguments.proofs.ArgLemmas.{both}
use Rattle.sil_program.specs.HeldPrograms.{IsShortText, text_bytes}
use Rattle.sil_program.specs.Programs.{formats_of}

-- the test of a format holds of formats alone
abbrev pub LawOfFormats : Type 0
LawOfFormats = (text : List ℕ) → reading.is_format text ≡ true → IsFormat text

-- what holds of a text, where it is one of a FORMAT, holds of it among the others
listed : (P : List ℕ → Type 0) (b : Bool) (text : List ℕ) (texts : List (List ℕ)) → (b ≡ true → P text) → All P texts → All P (cond b (text ∷ texts) texts)
listed P true text texts this others = All-cons P text texts (this refl) others
listed P false text texts this others = others

tested : (m : Macro) (operands : List Operand) → is_format (part_of m) ≡ true → has_format m operands ≡ true → reading.is_format (first_text operands) ≡ true
tested macros.Format operands is h = h
tested _ operands is h = let no : ⊥ = cc in absurd no

-- they are formats
pub are_formats : LawOfFormats → (source : List Stmt) → list_all is_formatted source ≡ true → All IsFormat (formats_of source)
are_formats law [] h = All-nil IsFormat
are_formats law (s ∷ source) h =
    let (this, others) = both (is_formatted s) (list_all is_formatted source) h in
    listed IsFormat (is_format (part_of s.name)) (first_text s.operands) (formats_of source)
    (λ is. law (first_text s.operands) (tested s.name s.operands is this)) (are_formats law source others)

-- each is short
pub are_short : (source : List Stmt) → All IsShortText source → All (λ text. length text ≤ 256) (formats_of source)
are_short [] h = All-nil (λ text. length text ≤ 256)
are_short (s ∷ source) h =
    listed (λ text. length text ≤ 256) (is_format (part_of s.name)) (first_text s.operands) (formats_of source)
    (λ is. All-head IsShortText s source h) (are_short source (All-tail IsShortText s source h))

bytes_or : (b : Bool) (text : List ℕ) (texts : List (List ℕ)) (n : ℕ) → sum_by length texts ≤ n → sum_by length (cond b (text ∷ texts) texts) ≤ length text + n
bytes_or true text texts n h = omega (arith, sum_by-cons length text texts, h)
bytes_or false text texts n h = omega (arith, h)

-- and they have no more bytes than the texts of all statements
pub few_bytes : (source : List Stmt) → sum_by length (formats_of source) ≤ text_bytes source
few_bytes [] = omega arith
few_bytes (s ∷ source) =
    let more = bytes_or (is_format (part_of s.name)) (first_text s.operands) (formats_of source) (text_bytes source) (few_bytes source) in
    omega (arith, more, sum_by-cons (λ (t : Stmt). length (first_text t.operands)) s source)
