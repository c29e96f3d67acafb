-- The text of a statement is no longer than the operand field of its card.
use Rattle.std.proofs.Common.{◌≡◌, ℕ, suc, ◌≤◌, Bool, true, false, cond, List, [], ◌∷◌, ◌++◌, length, Option, Some, None, refl, ap, arith}
use Rattle.std.specs.Prelude.{All, IsTrue, codes, unwrap_or, ◌==◌}
use Rattle.std.proofs.lemmas.List.{length-append}
use Rattle.std.proofs.lemmas.List.Elements.{All-nil, All-cons, All-head, All-tail}
use Rattle.std.proofs.lemmas.List.Sums.{sum_by-cons}
use Rattle.sil_base.specs.Names.{is_word}
use Rattle.sil_cards.specs.CardParts.{CardParts}
use Rattle.sil_cards.specs.Cards.{AreCards, IsShort, field_bytes}
use Rattle.sil_cards.specs.Contents.{operands_at}
use Rattle.sil_operands.specs.declared.operand.Operand.{Operand}
use Rattle.sil_operands.specs.declared.operand.Operand.TheVariants.{Null, Expr, List as Listed, Text}
use Rattle.sil_operands.specs.Limits.{are_within_limits}
use Rattle.sil_operands.specs.OperandGrammar.{quoted, field_text, SpellsSeparated, SpellsOperand, SpellsOperands}
use Rattle.sil_operands.specs.OperandReading.{operands_of}
use Rattle.sil_symbols.specs.declared.stmt.Stmt.{Stmt}
use Rattle.data_asm.specs.DataFields.{first_text}
use Rattle.sil_program.specs.HeldPrograms.{IsShortText, HaveShortTexts, text_bytes}
use Rattle.sil_program.specs.Statements.{statement_of, statements_of}

-- ---- a text in its field

quoted_or : (b : Bool) (c n : ℕ) (rest : List ℕ) → n ≤ length rest → suc n ≤ length (cond b (39 ∷ 39 ∷ rest) (c ∷ rest))
quoted_or true c n rest h = omega (arith, h)
quoted_or false c n rest h = omega (arith, h)

-- two quotes stand for one, so the bytes between the quotes are no fewer
within_quotes : (text : List ℕ) → length text ≤ length (quoted text)
within_quotes [] = omega arith
within_quotes (c ∷ text) = quoted_or (c == 39) c (length text) (quoted text) (within_quotes text)

one_or : (b : Bool) (c : ℕ) → length (cond b [] (c ∷ [])) ≤ 1
one_or true c = omega arith
one_or false c = omega arith

field_within : (field : List ℕ) → length (field_text field) ≤ length field
field_within [] = omega arith
field_within (c ∷ []) = one_or (c == 44) c
field_within (c ∷ d ∷ cs) = omega arith

operand_within : (bytes : List ℕ) (operand : Operand) (operands : List Operand) → SpellsOperand bytes operand → length (first_text (operand ∷ operands)) ≤ length bytes
operand_within bytes Null operands h = omega arith
operand_within bytes (Expr terms) operands h = omega arith
operand_within bytes (Listed items) operands h = omega arith
operand_within bytes (Text text) operands h =
    let bytes_are : length bytes ≡ suc (length (quoted text ++ 39 ∷ [])) = ap length h in
    omega (arith, bytes_are, length-append (quoted text) (39 ∷ []), within_quotes text)

spelled_within : (bytes : List ℕ) (operands : List Operand) → SpellsSeparated SpellsOperand 44 bytes operands → length (first_text operands) ≤ length bytes
spelled_within bytes [] h = absurd h
spelled_within bytes (operand ∷ []) h = operand_within bytes operand [] h
spelled_within bytes (operand ∷ next ∷ more) h =
    let (first, rest, is, spelled, others) = h in
    let bytes_are : length bytes ≡ length (first ++ 44 ∷ rest) = ap length is in
    omega (arith, bytes_are, length-append first (44 ∷ rest), operand_within first operand (next ∷ more) spelled)

text_within : (field : List ℕ) (operands : List Operand) → SpellsOperands field operands → length (first_text operands) ≤ length field
text_within field operands h = omega (arith, spelled_within (field_text field) operands h, field_within field)

-- ---- the texts of cards

-- what is read of a field is spelled by it
abbrev AreSpelled : Type 0
AreSpelled = (field : List ℕ) (operands : List Operand) → operands_of field ≡ Some operands → SpellsOperands field operands × IsTrue (are_within_limits operands)

kept : (b : Bool) (field : List ℕ) (read : Option (List Operand)) → ((operands : List Operand) → read ≡ Some operands → length (first_text operands) ≤ length field) → length (first_text (cond b [] (unwrap_or read []))) ≤ length field
kept true field read h = omega arith
kept false field None h = omega arith
kept false field (Some operands) h = h operands refl

card_text : AreSpelled → (card : CardParts) → length (first_text (statement_of card).operands) ≤ length card.operands
unfolding operands_at
card_text spelled card =
    kept (is_word card.operation (codes "END")) card.operands (operands_of card.operands) (λ operands h. text_within card.operands operands (spelled card.operands operands h).0)

each_short : AreSpelled → (cards : List CardParts) → All IsShort cards → All IsShortText (statements_of cards)
each_short spelled [] h = All-nil IsShortText
each_short spelled (card ∷ cards) h =
    let this : IsShortText (statement_of card) = omega (arith, card_text spelled card, All-head IsShort card cards h) in
    All-cons IsShortText (statement_of card) (statements_of cards) this (each_short spelled cards (All-tail IsShort card cards h))

few_bytes : AreSpelled → (cards : List CardParts) → text_bytes (statements_of cards) ≤ field_bytes cards
few_bytes spelled [] = omega arith
few_bytes spelled (card ∷ cards) =
    omega (arith, card_text spelled card, few_bytes spelled cards, sum_by-cons (λ (s : Stmt). length (first_text s.operands)) (statement_of card) (statements_of cards), sum_by-cons (λ (c : CardParts). length c.operands) card cards)

pub short_texts : AreSpelled → (cards : List CardParts) → AreCards cards → HaveShortTexts (statements_of cards)
short_texts spelled cards h = record {
  each = each_short spelled cards h.short;
  together = omega (arith, few_bytes spelled cards, h.bytes);
}
