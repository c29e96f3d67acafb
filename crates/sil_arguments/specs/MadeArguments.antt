-- The operands of executable statements, as the machine takes them.
use Rattle.std.specs.Prelude.{ℕ, List, [], ◌∷◌, codes, Option, Some, None, option_map, option_and_then, slice_get, if◌then◌else◌, ℤ}
use Rattle.sil_macros.specs.declared.shapes.Kind.{Kind}
use Rattle.sil_macros.specs.declared.shapes.Kind.TheVariants as kind
use Rattle.sil_macros.specs.declared.shapes.Place.{Place}
use Rattle.sil_operands.specs.declared.expr.Term.{Term}
use Rattle.sil_operands.specs.declared.operand.Operand.{Operand}
use Rattle.sil_operands.specs.declared.operand.Operand.TheVariants.{Null, Expr, List as Listed, Text}
use Rattle.layout_params.specs.Parameters.{Parameters}
use Rattle.sil_operands.specs.Simple.{named_alone}
use Rattle.sil_symbols.specs.declared.stmt.Stmt.{Stmt}
use Rattle.sil_shapes.specs.ShapeRules.{Measure, measure_of, flags_of, format_at, location_of}
use Rattle.data_asm.specs.DataFields.{first_text}
use Rattle.syntax_tables.specs.declared.saying.Said.{Said}
use Rattle.syntax_tables.specs.TableFiles.{names_in, table_named}
use Rattle.sil_base.specs.Names.{is_word}
use Rattle.sil_model.specs.declared.program.Arg.{Arg}
use Rattle.sil_model.specs.declared.program.Arg.TheVariants as arg
use Rattle.sil_model.specs.declared.table.Action.{Action}
use Rattle.sil_model.specs.declared.table.Action.TheVariants.{Contin, Stop, Stopsh, Error}

-- an operand that is null or missing: the next statement, no locations, or none
abbrev pub null_arg : Kind → Arg
null_arg kind.Goto = arg.Goto None
null_arg kind.Gotos = arg.Gotos []
null_arg _ = arg.Absent

-- what the names of operands stand for: what expressions are measured by, the texts of FORMAT statements by their places, and the numbers of tables
pub record Scope : Type 0 where
  pub measure : Measure
  pub texts : ℕ → Option (List ℕ)
  pub tables : List ℕ → Option ℕ

-- the text of the statement at a place
abbrev pub text_at : List Stmt → ℕ → Option (List ℕ)
text_at source place = option_map (λ s. first_text s.operands) (slice_get source place)

-- that of a source with its parameters, and of the lines of a tables file
abbrev pub scope_of : Parameters → List Stmt → List Said → Scope
scope_of p source lines = record { measure = measure_of p source; texts = text_at source; tables = table_named (names_in lines) }

-- the action that a key names; none is GOTO
abbrev pub action_named : List ℕ → Option Action
action_named name =
    if is_word name (codes "CONTIN") then Some Contin
    else if is_word name (codes "STOP") then Some Stop
    else if is_word name (codes "STOPSH") then Some Stopsh
    else if is_word name (codes "ERROR") then Some Error
    else None

-- a first thing before others, where all are there
abbrev pub and_before : {A : Type 0} → Option A → Option (List A) → Option (List A)
and_before None rest = None
and_before (Some first) None = None
and_before (Some first) (Some rest) = Some (first ∷ rest)

-- the places of a list, where each item has a value
abbrev pub place_in : Measure → Option (List Term) → Option ℤ
place_in m None = None
place_in m (Some terms) = m.values terms

abbrev pub places_in : Measure → List (Option (List Term)) → Option (List ℤ)
places_in m [] = Some []
places_in m (item ∷ items) = and_before (place_in m item) (places_in m items)

-- the locations of a list: an item that is nothing is the next statement
abbrev pub location_in : Measure → Option (List Term) → Option (Option ℕ)
location_in m None = Some None
location_in m (Some terms) = option_map (λ k. Some k) (location_of m terms)

abbrev pub locations_in : Measure → List (Option (List Term)) → Option (List (Option ℕ))
locations_in m [] = Some []
locations_in m (item ∷ items) = and_before (location_in m item) (locations_in m items)

-- an expression in a place of this kind: in that of a list it stands for a list of one item
abbrev pub arg_by : Scope → Kind → List Term → Option Arg
arg_by scope kind.Descr terms = option_map arg.Place (scope.measure.values terms)
arg_by scope kind.Spec terms = option_map arg.Place (scope.measure.values terms)
arg_by scope kind.Number terms = option_map arg.Number (scope.measure.values terms)
arg_by scope kind.Flag terms = option_map arg.Flag (flags_of scope.measure terms)
arg_by scope kind.Goto terms = option_map (λ k. arg.Goto (Some k)) (location_of scope.measure terms)
arg_by scope kind.Required terms = option_map (λ k. arg.Goto (Some k)) (location_of scope.measure terms)
arg_by scope kind.Table terms = option_map arg.Table (option_and_then scope.tables (named_alone terms))
arg_by scope kind.Key terms = option_map arg.Key (option_and_then action_named (named_alone terms))
arg_by scope kind.Text terms = None
arg_by scope kind.Format terms = option_map arg.Format (option_and_then scope.texts (format_at scope.measure terms))
arg_by scope kind.Descrs terms = option_map (λ at. arg.Places (at ∷ [])) (scope.measure.values terms)
arg_by scope kind.Specs terms = option_map (λ at. arg.Places (at ∷ [])) (scope.measure.values terms)
arg_by scope kind.Gotos terms = option_map (λ k. arg.Gotos (Some k ∷ [])) (location_of scope.measure terms)
arg_by scope kind.Free terms = Some arg.Absent

-- a list in a place of this kind
abbrev pub list_arg : Scope → Kind → List (Option (List Term)) → Option Arg
list_arg scope kind.Descrs items = option_map arg.Places (places_in scope.measure items)
list_arg scope kind.Specs items = option_map arg.Places (places_in scope.measure items)
list_arg scope kind.Gotos items = option_map arg.Gotos (locations_in scope.measure items)
list_arg scope _ items = None

-- an operand in this place
abbrev pub arg_of : Scope → Place → Operand → Option Arg
arg_of scope place Null = if place.optional then Some (null_arg place.kind) else None
arg_of scope place (Expr terms) = arg_by scope place.kind terms
arg_of scope place (Listed items) = list_arg scope place.kind items
arg_of scope place (Text text) = None

-- a missing operand is null
abbrev pub first_of : List Operand → Operand
first_of [] = Null
first_of (operand ∷ operands) = operand

abbrev pub rest_of : List Operand → List Operand
rest_of [] = []
rest_of (operand ∷ operands) = operands

-- the operands in these places
abbrev pub args_of : Scope → List Place → List Operand → Option (List Arg)
args_of scope [] operands = Some []
args_of scope (place ∷ places) operands = and_before (arg_of scope place (first_of operands)) (args_of scope places (rest_of operands))
