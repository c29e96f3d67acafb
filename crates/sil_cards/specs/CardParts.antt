-- What contracts see of a card.
use Rattle.std.specs.Prelude.{ℕ, List}

-- the number among all lines that are read, and the fields but the comment
pub record CardParts : Type 0 where
  pub number : ℕ
  pub label : List ℕ
  pub operation : List ℕ
  pub operands : List ℕ
