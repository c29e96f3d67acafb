-- The rules S1 to S4: what the operands of statements are to be.
use Rattle.std.specs.Prelude.{ℕ, nat_le, List, [], ◌∷◌, Option, Some, None, option_and_then, is_none, Bool, false, not, if◌then◌else◌, ℤ}
use Rattle.std.specs.List.{list_any}
use Rattle.layout_params.specs.Parameters.{Parameters}
use Rattle.layout_params.specs.Sizes.{flag_limit}
use Rattle.sil_base.specs.declared.line.Fault.{Fault}
use Rattle.sil_macros.specs.declared.shapes.Kind.{Kind}
use Rattle.sil_macros.specs.declared.shapes.Kind.TheVariants as kind
use Rattle.sil_macros.specs.declared.shapes.Place.{Place}
use Rattle.sil_macros.specs.MacroRows.{row}
use Rattle.sil_operands.specs.declared.expr.Term.{Term}
use Rattle.sil_operands.specs.declared.operand.Operand.{Operand}
use Rattle.sil_operands.specs.declared.operand.Operand.TheVariants.{Null, Expr, List as Listed, Text}
use Rattle.sil_operands.specs.Simple.{named_alone}
use Rattle.sil_symbols.specs.declared.stmt.Stmt.{Stmt}
use Rattle.sil_symbols.specs.SymbolRules.{faults_from}
use Rattle.sil_symbols.specs.Symbols.{value_of, format_of}
use Rattle.sil_shapes.specs.Shapes.{fits}
use Rattle.sil_shapes.specs.Locations.{executable_count, statement_at, number_within}

-- what operands are measured by: the values of expressions, the bytes of a descriptor, the number of executable statements, the largest flag, and the places of FORMAT statements
pub record Measure : Type 0 where
  pub values : List Term → Option ℤ
  pub size : ℕ
  pub count : ℕ
  pub flags : ℕ
  pub formats : List ℕ → Option ℕ

abbrev pub measure_of : Parameters → List Stmt → Measure
measure_of p source = record {
  values = value_of p source;
  size = p.settings.sizes.descr;
  count = executable_count source;
  flags = flag_limit p.settings.sizes;
  formats = format_of source;
}

-- the statement whose entry an expression is
abbrev pub location_of : Measure → List Term → Option ℕ
location_of m terms = option_and_then (statement_at m.size m.count) (m.values terms)

-- the flags that an expression is
abbrev pub flags_of : Measure → List Term → Option ℕ
flags_of m terms = option_and_then (number_within m.flags) (m.values terms)

-- the place of the FORMAT that an expression names
abbrev pub format_at : Measure → List Term → Option ℕ
format_at m terms = option_and_then m.formats (named_alone terms)

-- an item of a list of locations is no statement's entry; nothing is the next statement
abbrev pub is_lost : Measure → Option (List Term) → Bool
is_lost m None = false
is_lost m (Some terms) = is_none (location_of m terms)

abbrev pub rule_if : Bool → ℕ → Option ℕ
rule_if broken rule = if broken then Some rule else None

-- S2: a location is no statement's entry; S3: flags aren't within their limit; S4: a format isn't the name of a FORMAT
abbrev pub expression_rule : Measure → Kind → List Term → Option ℕ
expression_rule m kind.Goto terms = rule_if (is_none (location_of m terms)) 2
expression_rule m kind.Required terms = rule_if (is_none (location_of m terms)) 2
expression_rule m kind.Gotos terms = rule_if (is_none (location_of m terms)) 2
expression_rule m kind.Flag terms = rule_if (is_none (flags_of m terms)) 3
expression_rule m kind.Format terms = rule_if (is_none (format_at m terms)) 4
expression_rule m _ terms = None

abbrev pub list_rule : Measure → Kind → List (Option (List Term)) → Option ℕ
list_rule m kind.Gotos items = rule_if (list_any (is_lost m) items) 2
list_rule m _ items = None

-- the rule that an operand in a place of this kind breaks
abbrev pub operand_rule : Measure → Kind → Operand → Option ℕ
operand_rule m k Null = None
operand_rule m k (Expr terms) = expression_rule m k terms
operand_rule m k (Listed items) = list_rule m k items
operand_rule m k (Text text) = None

abbrev pub least : Option ℕ → Option ℕ → Option ℕ
least None other = other
least (Some a) None = Some a
least (Some a) (Some b) = if nat_le a b then Some a else Some b

-- the least of the rules that operands in these places break
abbrev pub operands_rule : Measure → List Place → List Operand → Option ℕ
operands_rule m [] operands = None
operands_rule m (place ∷ places) [] = None
operands_rule m (place ∷ places) (operand ∷ operands) = least (operand_rule m place.kind operand) (operands_rule m places operands)

-- S1: the operands don't have the macro's shape; else the least of the rules that they break
abbrev pub statement_rule : Measure → ℕ → Stmt → Option ℕ
statement_rule m place s =
    if not (fits s.name s.operands) then Some 1 else operands_rule m (row s.name).places s.operands

-- the faults of the statements of a source, whose letter is S
unfoldable pub statement_faults : Parameters → List Stmt → List Fault
statement_faults p source = faults_from 83 (statement_rule (measure_of p source)) 0 source
