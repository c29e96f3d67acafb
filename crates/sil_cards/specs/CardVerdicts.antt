-- What a card is, by the rules that hold of a card alone.
use Rattle.std.specs.Prelude.{ℕ, ◌==◌, nat_lt, nat_le, Bool, true, false, not, ◌&&◌, ◌||◌, List, [], ◌∷◌, length, codes, Option, Some, None, is_some, option_and_then, if◌then◌else◌}
use Rattle.std.specs.List.{list_all}
use Rattle.sil_macros.specs.Macros.{with_name}
use Rattle.sil_base.specs.Names.{is_name, is_word}
use Rattle.sil_operands.specs.OperandReading.{operands_of}
use Rattle.sil_operands.specs.declared.operand.Operand.{Operand}
use Rattle.sil_operands.specs.declared.operand.Operand.TheVariants.{Null, Expr, List as ListOperand, Text}
use Rattle.sil_operands.specs.Simple.{named_alone, is_null}
use Rattle.sil_cards.specs.declared.verdict.Verdict.{Verdict}
use Rattle.sil_cards.specs.declared.verdict.Verdict.TheVariants.{Skipped, Broken, Copies, Taken}
use Rattle.sil_cards.specs.CardFields.{Fields, fields_of, is_comment}

-- a tab, or a byte from 32 to 126
abbrev pub is_card_byte : ℕ → Bool
is_card_byte c = c == 9 || (nat_le 32 c && nat_le c 126)

-- a name of a macro
unfoldable pub is_macro : List ℕ → Bool
is_macro operation = is_some (with_name operation)

-- a field in the grammar of operands, within its limits
unfoldable pub has_operands : List ℕ → Bool
has_operands field = is_some (operands_of field)

-- no label, or a name
abbrev pub is_label : List ℕ → Bool
is_label [] = true
is_label (c ∷ label) = is_name (c ∷ label)

-- a text that isn't empty
abbrev pub some_text : List ℕ → Option (List ℕ)
some_text [] = None
some_text (c ∷ text) = Some (c ∷ text)

-- the file that one operand of COPY names
abbrev pub file_of : Operand → Option (List ℕ)
file_of Null = None
file_of (Expr terms) = named_alone terms
file_of (ListOperand items) = None
file_of (Text text) = some_text text

-- the file that the operands of COPY name: one operand and none but null ones after it
abbrev pub file_named : List Operand → Option (List ℕ)
file_named [] = None
file_named (operand ∷ operands) = if list_all is_null operands then file_of operand else None

unfoldable pub copied_file : List ℕ → Option (List ℕ)
copied_file field = option_and_then file_named (operands_of field)

-- a COPY in a file, where files may be so many levels deeper
abbrev pub copy_verdict : ℕ → List ℕ → Option (List ℕ) → Verdict
copy_verdict deeper label None = Broken 4
copy_verdict deeper label (Some name) =
    if not (is_label label) then Broken 5
    else if deeper == 0 then Broken 6
    else Copies name

-- a card of another macro, by whether its operand field is in the grammar; those of TITLE and END aren't read
abbrev pub other_verdict : Fields → Bool → Verdict
other_verdict f fits =
    if not (is_word f.operation (codes "TITLE")) && not (is_word f.operation (codes "END")) && not fits then Broken 4
    else if not (is_label f.label) then Broken 5
    else if is_word f.operation (codes "TITLE") then Skipped
    else Taken

abbrev pub verdict_of_fields : ℕ → Fields → Verdict
verdict_of_fields deeper f =
    if not (is_macro f.operation) then Broken 3
    else if is_word f.operation (codes "COPY") then copy_verdict deeper f.label (copied_file f.operands)
    else other_verdict f (has_operands f.operands)

-- a card in a file, where files may be so many levels deeper, with the least rule that it breaks
unfoldable pub verdict : ℕ → List ℕ → Verdict
verdict deeper text =
    if is_comment text then Skipped
    else if nat_lt 256 (length text) then Broken 1
    else if not (list_all is_card_byte text) then Broken 2
    else verdict_of_fields deeper (fields_of text)

-- END, which ends the reading also where its label is no name
unfoldable pub is_end : List ℕ → Bool
is_end text =
    not (is_comment text) && nat_le (length text) 256 && list_all is_card_byte text && is_word (fields_of text).operation (codes "END")
