-- Operands that are a single name, or nothing.
use Rattle.std.specs.Prelude.{ℕ, Bool, true, false, List, [], ◌∷◌, Option, Some, None, if◌then◌else◌}
use Rattle.sil_operands.specs.declared.expr.Factor.{Factor}
use Rattle.sil_operands.specs.declared.expr.Factor.TheVariants.{Name, Number}
use Rattle.sil_operands.specs.declared.expr.Term.{Term}
use Rattle.sil_operands.specs.declared.operand.Operand.{Operand}
use Rattle.sil_operands.specs.declared.operand.Operand.TheVariants.{Null, Expr, List as ListOperand, Text}

-- the name, where a list of factors is just one
abbrev pub one_name : List Factor → Option (List ℕ)
one_name [] = None
one_name (Name name ∷ []) = Some name
one_name (Name name ∷ next ∷ factors) = None
one_name (Number n ∷ factors) = None

-- the name, where an expression is just one without a minus
abbrev pub named_alone : List Term → Option (List ℕ)
named_alone [] = None
named_alone (term ∷ []) = if term.minus then None else one_name term.factors
named_alone (term ∷ next ∷ terms) = None

abbrev pub is_null : Operand → Bool
is_null Null = true
is_null (Expr terms) = false
is_null (ListOperand items) = false
is_null (Text text) = false
