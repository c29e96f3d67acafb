-- The names of the files that a program is made from.
use Rattle.std.specs.Prelude.{ℕ, List, IsUtf8}

pub record Names : Type 0 where
  pub source : List ℕ
  pub tables : List ℕ
  pub params : List ℕ

-- each of them is a text
pub record AreTexts (names : Names) : Type 0 where
  pub source : IsUtf8 names.source
  pub tables : IsUtf8 names.tables
  pub params : IsUtf8 names.params
