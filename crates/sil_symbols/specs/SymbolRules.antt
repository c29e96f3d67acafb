-- The rules N1 to N4 and V1 to V4, and the faults of a source.
use Rattle.std.specs.Prelude.{◌≡◌, ℕ, ◌+◌, List, [], ◌∷◌, ◌++◌, map, Option, Some, None, is_some, is_none, Bool, true, false, not, ◌&&◌, ◌||◌, ◌==◌, nat_lt, if◌then◌else◌, ℤ}
use Rattle.std.specs.List.{list_any}
use Rattle.std.specs.List.Sorted.{IsStrictlyIncreasing}
use Rattle.layout_params.specs.Parameters.{Parameters}
use Rattle.layout_params.specs.ParameterSymbols.{symbol_of}
use Rattle.sil_base.specs.declared.line.Fault.{Fault}
use Rattle.sil_base.specs.declared.line.TheConstants.{SOURCE_FILE}
use Rattle.sil_base.specs.Faults.{fault_at}
use Rattle.sil_macros.specs.declared.shapes.Kind.{Kind}
use Rattle.sil_macros.specs.declared.shapes.Kind.TheVariants.{Table, Key}
use Rattle.sil_macros.specs.declared.shapes.Place.{Place}
use Rattle.sil_macros.specs.MacroRows.{row}
use Rattle.sil_operands.specs.declared.expr.Term.{Term}
use Rattle.sil_operands.specs.declared.operand.Operand.{Operand}
use Rattle.sil_operands.specs.declared.operand.Operand.TheVariants.{Null, Expr, List as Listed, Text}
use Rattle.sil_base.specs.declared.limits.TheConstants.{MAX_CELLS, MAX_STATEMENTS}
use Rattle.sil_symbols.specs.declared.outcome.Outcome.{Outcome}
use Rattle.sil_symbols.specs.declared.outcome.Outcome.TheVariants.{Value, NoValue, Circular}
use Rattle.sil_symbols.specs.declared.stmt.Stmt.{Stmt}
use Rattle.sil_symbols.specs.StatementParts.{part_of, is_equation, is_end, is_unread, takes_size}
use Rattle.sil_symbols.specs.Expressions.{outcome_of, some_name, is_circular}
use Rattle.sil_symbols.specs.Labels.{is_empty, is_labelled, labelled, origin_by}
use Rattle.sil_symbols.specs.NameValues.{first_expression}
use Rattle.sil_symbols.specs.Addresses.{size_of}
use Rattle.sil_symbols.specs.Symbols.{size_names, names_of, extent, all_cells}

abbrev pub items_in : List (Option (List Term)) → List (List Term)
items_in [] = []
items_in (None ∷ items) = items_in items
items_in (Some terms ∷ items) = terms ∷ items_in items

abbrev pub expressions_in : Operand → List (List Term)
expressions_in Null = []
expressions_in (Expr terms) = terms ∷ []
expressions_in (Listed items) = items_in items
expressions_in (Text text) = []

-- the name of a table, and a key, are no symbols
abbrev pub is_apart : Kind → Bool
is_apart Table = true
is_apart Key = true
is_apart _ = false

-- the expressions of operands but those in the place of a table or a key; those past the shape's places too
abbrev pub expressions_at : List Place → List Operand → List (List Term)
expressions_at places [] = []
expressions_at [] (operand ∷ operands) = expressions_in operand ++ expressions_at [] operands
expressions_at (place ∷ places) (operand ∷ operands) =
    if is_apart place.kind then expressions_at places operands else expressions_in operand ++ expressions_at places operands

abbrev pub expressions_of : Stmt → List (List Term)
expressions_of s = if is_unread (part_of s.name) then [] else expressions_at (row s.name).places s.operands

abbrev pub stands_at : ℕ → Option ℕ → Bool
stands_at place None = false
stands_at place (Some first) = first == place

-- N1: the label was defined by an earlier statement; the places of labels are given
abbrev pub is_defined_again : (List ℕ → Option ℕ) → ℕ → Stmt → Bool
is_defined_again labels place s = is_labelled s && not (stands_at place (labels s.label))

-- N2: the label is the name of a parameter symbol
abbrev pub labels_parameter : (List ℕ → Option ℤ) → Stmt → Bool
labels_parameter parameters s = is_labelled s && is_some (parameters s.label)

-- N3: an expression has a name that is no symbol
abbrev pub names_no_symbol : (List ℕ → Option ℤ) → (List ℕ → Option ℕ) → Stmt → Bool
names_no_symbol parameters labels s = list_any (some_name (λ name. is_none (origin_by (parameters name) (labels name)))) (expressions_of s)

-- N4: an EQU has no label
abbrev pub names_nothing : Stmt → Bool
names_nothing s = is_equation (part_of s.name) && is_empty s.label

-- the least of the rules N that the statement at this place breaks
abbrev pub name_rule : (List ℕ → Option ℤ) → (List ℕ → Option ℕ) → ℕ → Stmt → Option ℕ
name_rule parameters labels place s =
    if is_defined_again labels place s then Some 1
    else if labels_parameter parameters s then Some 2
    else if names_no_symbol parameters labels s then Some 3
    else if names_nothing s then Some 4
    else None

abbrev pub is_circular_by : (List ℕ → Outcome) → Option (List Term) → Bool
is_circular_by names None = false
is_circular_by names (Some terms) = some_name (λ name. is_circular (names name)) terms

-- V1: an EQU rests on itself, or on such a one
abbrev pub is_circular_equation : (List ℕ → Outcome) → Stmt → Bool
is_circular_equation names s = is_equation (part_of s.name) && is_circular_by names (first_expression s.operands)

-- V2: an ARRAY or a BUFFER has no size
abbrev pub lacks_size : (List ℕ → Outcome) → Stmt → Bool
lacks_size sizes s = takes_size (part_of s.name) && is_none (size_of sizes s)

abbrev pub is_no_value : Outcome → Bool
is_no_value (Value z) = false
is_no_value NoValue = true
is_no_value Circular = false

-- V3: an expression has no value, and a circle isn't its only cause
abbrev pub lacks_value : (List ℕ → Outcome) → Stmt → Bool
lacks_value names s = list_any (λ terms. is_no_value (outcome_of names terms)) (expressions_of s)

-- there are too many cells or executable statements
abbrev pub is_over : Parameters → List Stmt → Bool
is_over p statements = nat_lt MAX_CELLS (all_cells p statements) || nat_lt MAX_STATEMENTS (extent p statements).statements

-- the least of the rules V that a statement breaks, by the outcomes for sizes and those of names; V4, that the source is over its limits, stands on END
abbrev pub value_rule : (List ℕ → Outcome) → (List ℕ → Outcome) → Bool → ℕ → Stmt → Option ℕ
value_rule sizes names over place s =
    if is_circular_equation names s then Some 1
    else if lacks_size sizes s then Some 2
    else if lacks_value names s then Some 3
    else if is_end (part_of s.name) && over then Some 4
    else None

abbrev pub with_fault : ℕ → ℕ → Option ℕ → List Fault → List Fault
with_fault letter card None faults = faults
with_fault letter card (Some rule) faults = fault_at SOURCE_FILE letter card rule ∷ faults

-- the faults of statements from a place on, by the rule that each of them breaks
abbrev pub faults_from : ℕ → (ℕ → Stmt → Option ℕ) → ℕ → List Stmt → List Fault
faults_from letter rule place [] = []
faults_from letter rule place (s ∷ statements) = with_fault letter s.card (rule place s) (faults_from letter rule (place + 1) statements)

-- the letters are N and V
unfoldable pub name_faults : Parameters → List Stmt → List Fault
name_faults p statements = faults_from 78 (name_rule (symbol_of p) (labelled statements)) 0 statements

unfoldable pub value_faults : Parameters → List Stmt → List Fault
value_faults p statements = faults_from 86 (value_rule (size_names p statements) (names_of p statements) (is_over p statements)) 0 statements

-- those of the rules N, or where there are none those of the rules V
abbrev pub first_faults : List Fault → List Fault → List Fault
first_faults [] values = values
first_faults (fault ∷ names) values = fault ∷ names

abbrev pub faults_of : Parameters → List Stmt → List Fault
faults_of p statements = first_faults (name_faults p statements) (value_faults p statements)

-- the cards are in the order of their numbers
abbrev pub CardsRise : List Stmt → Type 0
CardsRise statements = IsStrictlyIncreasing (map (λ s. s.card) statements)

-- the last statement, and no other, is END
abbrev pub EndsOnce : List Stmt → Type 0
EndsOnce [] = ⊥
EndsOnce (s ∷ []) = is_end (part_of s.name) ≡ true
EndsOnce (s ∷ next ∷ statements) = (is_end (part_of s.name) ≡ false) × EndsOnce (next ∷ statements)
