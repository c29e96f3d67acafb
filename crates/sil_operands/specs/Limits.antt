-- The limits on operands.
use Rattle.std.specs.Prelude.{ℕ, ◌^◌, List, length, Option, Some, None, Bool, true, ◌&&◌, nat_lt, nat_le}
use Rattle.sil_base.specs.declared.limits.TheConstants.{MAX_LIST_ITEMS}
use Rattle.std.specs.List.{list_all}
use Rattle.sil_operands.specs.declared.expr.Factor.{Factor}
use Rattle.sil_operands.specs.declared.expr.Factor.TheVariants.{Name, Number}
use Rattle.sil_operands.specs.declared.expr.Term.{Term}
use Rattle.sil_operands.specs.declared.operand.Operand.{Operand}
use Rattle.sil_operands.specs.declared.operand.Operand.TheVariants.{Null, Expr, List as Listed, Text}

-- which numbers of items a list may have, and which numbers may stand
pub record Limits : Type 0 where
  pub items : ℕ → Bool
  pub number : ℕ → Bool

-- the limits of cards: at most 40 items of a list, and numbers of 64 bits
abbrev pub card_limits : Limits
card_limits = record { items = λ n. nat_le n MAX_LIST_ITEMS; number = λ n. nat_lt n (2 ^ 64) }

abbrev pub factor_keeps : Limits → Factor → Bool
factor_keeps limits (Name name) = true
factor_keeps limits (Number n) = limits.number n

abbrev pub term_keeps : Limits → Term → Bool
term_keeps limits term = list_all (factor_keeps limits) term.factors

abbrev pub item_keeps : Limits → Option (List Term) → Bool
item_keeps limits None = true
item_keeps limits (Some terms) = list_all (term_keeps limits) terms

abbrev pub operand_keeps : Limits → Operand → Bool
operand_keeps limits Null = true
operand_keeps limits (Expr terms) = list_all (term_keeps limits) terms
operand_keeps limits (Listed items) = limits.items (length items) && list_all (item_keeps limits) items
operand_keeps limits (Text text) = true

-- operands within the limits of cards
abbrev pub are_within_limits : List Operand → Bool
are_within_limits operands = list_all (operand_keeps card_limits) operands
