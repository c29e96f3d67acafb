-- From cards to statements.
use Rattle.std.specs.Prelude.{List, map}
use Rattle.sil_cards.specs.CardParts.{CardParts}
use Rattle.sil_cards.specs.Contents.{operation_of, operands_at}
use Rattle.sil_symbols.specs.declared.stmt.Stmt.{Stmt}

-- the statement of a card
abbrev pub statement_of : CardParts → Stmt
statement_of card = record {
  card = card.number;
  label = card.label;
  name = operation_of card.operation;
  operands = operands_at card.operation card.operands;
}

abbrev pub statements_of : List CardParts → List Stmt
statements_of cards = map statement_of cards
