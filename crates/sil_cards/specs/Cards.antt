-- Cards, and what holds of those that are read.
use Rattle.std.specs.Prelude.{◌≡◌, ℕ, ◌≤◌, true, false, ◌||◌, List, [], ◌∷◌, length, map, codes, All}
use Rattle.std.specs.List.{sum_by}
use Rattle.std.specs.List.Sorted.{IsStrictlyIncreasing}
use Rattle.sil_base.specs.declared.limits.TheConstants.{MAX_FILE_BYTES}
use Rattle.sil_cards.specs.CardParts.{CardParts}
use Rattle.sil_cards.specs.CardFields.{fields_of}
use Rattle.sil_base.specs.Names.{is_word}
use Rattle.sil_cards.specs.CardVerdicts.{is_macro, is_label, has_operands}

-- the card of a text
abbrev pub card_at : ℕ → List ℕ → CardParts
card_at number text = record {
  number = number;
  label = (fields_of text).label;
  operation = (fields_of text).operation;
  operands = (fields_of text).operands;
}

abbrev pub IsEnd : CardParts → Type 0
IsEnd card = is_word card.operation (codes "END") ≡ true

-- a card that breaks no rule
pub record IsGood (card : CardParts) : Type 0 where
  pub operation : is_macro card.operation ≡ true
  pub not_copy : is_word card.operation (codes "COPY") ≡ false
  pub not_title : is_word card.operation (codes "TITLE") ≡ false
  pub operands : (is_word card.operation (codes "END") || has_operands card.operands) ≡ true
  pub label : is_label card.label ≡ true

-- the last of them and no other is END
abbrev pub EndsOnce : List CardParts → Type 0
EndsOnce [] = ⊥
EndsOnce (card ∷ []) = IsEnd card
EndsOnce (card ∷ next ∷ cards) = (is_word card.operation (codes "END") ≡ false) × EndsOnce (next ∷ cards)

abbrev pub numbers_of : List CardParts → List ℕ
numbers_of cards = map (λ card. card.number) cards

-- the operand field has at most so many bytes as a card may have
abbrev pub IsShort : CardParts → Type 0
IsShort card = length card.operands ≤ 256

-- the bytes of all operand fields
abbrev pub field_bytes : List CardParts → ℕ
field_bytes cards = sum_by (λ card. length card.operands) cards

-- cards that break no rule, with numbers that rise, and within the limits on bytes
pub record AreCards (cards : List CardParts) : Type 0 where
  pub good : All IsGood cards
  pub ends : EndsOnce cards
  pub rise : IsStrictlyIncreasing (numbers_of cards)
  pub short : All IsShort cards
  pub bytes : field_bytes cards ≤ MAX_FILE_BYTES
