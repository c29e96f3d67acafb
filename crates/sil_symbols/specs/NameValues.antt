-- What names mean, and their outcomes by recursion on what an EQU names.
use Rattle.std.specs.Prelude.{ℕ, zero, suc, List, [], ◌∷◌, Option, Some, None, slice_index_or, if◌then◌else◌}
use Rattle.sil_operands.specs.declared.expr.Term.{Term}
use Rattle.sil_operands.specs.declared.operand.Operand.{Operand}
use Rattle.sil_operands.specs.declared.operand.Operand.TheVariants.{Null, Expr, List as Listed, Text}
use Rattle.sil_symbols.specs.declared.stmt.Stmt.{Stmt}
use Rattle.sil_symbols.specs.declared.origin.Origin.{Origin}
use Rattle.sil_symbols.specs.declared.origin.Origin.TheVariants.{Parameter, Label}
use Rattle.sil_symbols.specs.declared.outcome.Outcome.{Outcome}
use Rattle.sil_symbols.specs.declared.outcome.Outcome.TheVariants.{Value, NoValue, Circular}
use Rattle.sil_symbols.specs.StatementParts.{part_of, is_equation}
use Rattle.sil_symbols.specs.Expressions.{equated}

-- a name means what is known of it, or what an expression gives
pub data Meaning : Type 0 where
  Fixed : Outcome → Meaning
  Equals : List Term → Meaning

-- the first operand, where it is an expression
abbrev pub first_expression : List Operand → Option (List Term)
first_expression [] = None
first_expression (Null ∷ operands) = None
first_expression (Expr terms ∷ operands) = Some terms
first_expression (Listed items ∷ operands) = None
first_expression (Text text ∷ operands) = None

-- an EQU without an expression gives no value
abbrev pub equation_by : Option (List Term) → Meaning
equation_by None = Fixed NoValue
equation_by (Some terms) = Equals terms

-- the meaning of the label of a statement with this address
abbrev pub meaning_at : Outcome → Stmt → Meaning
meaning_at address s = if is_equation (part_of s.name) then equation_by (first_expression s.operands) else Fixed address

abbrev pub meanings : List Outcome → List Stmt → List Meaning
meanings [] statements = []
meanings (address ∷ addresses) [] = []
meanings (address ∷ addresses) (s ∷ statements) = meaning_at address s ∷ meanings addresses statements

-- the meaning of a name of this origin, by the meanings of labels
abbrev pub meaning_of : List Meaning → Option Origin → Meaning
meaning_of labels None = Fixed NoValue
meaning_of labels (Some (Parameter value)) = Fixed (Value value)
meaning_of labels (Some (Label place)) = slice_index_or labels place (Fixed NoValue)

abbrev pub first_outcome : Meaning → Outcome
first_outcome (Fixed outcome) = outcome
first_outcome (Equals terms) = Circular

abbrev pub next_outcome : (List ℕ → Outcome) → Meaning → Outcome
next_outcome names (Fixed outcome) = outcome
next_outcome names (Equals terms) = equated names terms

-- the outcome of a name, where at most so many EQUs are followed one after another; one that leads further is circular
unfoldable pub outcome_within : ℕ → (List ℕ → Meaning) → List ℕ → Outcome
outcome_within zero means name = first_outcome (means name)
outcome_within (suc n) means name = next_outcome (outcome_within n means) (means name)
