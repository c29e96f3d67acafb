-- Names and outcomes as the code holds them.
use Rattle.std.specs.Prelude.{◌≡◌, ◌<◌, ℕ, List, Option, Some, None, option_map, position, slice_index_or, slice_get, length, nat_eq, ℤ, pos, Bool, true, false, if◌then◌else◌, count_by, map, min, ◌-◌, ◌^◌}
use Rattle.std.specs.Borrow.{Bor}
use Rattle.std.specs.Option.{option_map_or}
use Rattle.std.specs.Cmp.Lexicographic.{pointwise}
use Rattle.indexmap.specs.IndexMap.{get_by}
use Rattle.layout_params.specs.Parameters.{Parameters}
use Rattle.layout_params.specs.ParameterSymbols.{symbol_in, symbol_of}
use Rattle.sil_operands.specs.declared.expr.Term.{Term}
use Rattle.sil_macros.specs.declared.shapes.Place.{Place}
use Rattle.sil_symbols.specs.declared.names.Names.{Names}
use Rattle.sil_symbols.specs.declared.origin.Origin.{Origin}
use Rattle.sil_symbols.specs.declared.origin.Origin.TheVariants.{Parameter, Label}
use Rattle.sil_symbols.specs.declared.outcome.Outcome.{Outcome}
use Rattle.sil_symbols.specs.declared.outcome.Outcome.TheVariants.{Value, NoValue, Circular}
use Rattle.sil_symbols.specs.declared.addresses.Spot.{Spot}
use Rattle.sil_symbols.specs.declared.stmt.Stmt.{Stmt}
use Rattle.sil_symbols.specs.StatementParts.{part_of, is_equation}
use Rattle.sil_symbols.specs.Expressions.{some_name, is_circular}
use Rattle.sil_symbols.specs.Labels.{labelled, origin_by}
use Rattle.sil_symbols.specs.SymbolRules.{is_apart}
use Rattle.sil_symbols.specs.NameValues.{Meaning, Fixed, Equals, first_expression, meaning_of, outcome_within}

-- the value of a parameter symbol, and the place of a label
abbrev pub parameter_in : Names → List ℕ → Option ℤ
parameter_in names name = symbol_in names.parameters name

abbrev pub label_in : Names → List ℕ → Option ℕ
label_in names name = get_by (λ k. pointwise nat_eq name k.items) names.labels

abbrev pub origin_in : Names → List ℕ → Option Origin
origin_in names name = origin_by (parameter_in names name) (label_in names name)

-- they are those of the parameters and of the statements
pub record HoldsNames (p : Parameters) (statements : List Stmt) (names : Names) : Type 0 where
  pub parameters : (name : List ℕ) → parameter_in names name ≡ symbol_of p name
  pub labels : (name : List ℕ) → label_in names name ≡ labelled statements name

-- the outcome of a name of this origin, by the outcomes of labels
abbrev pub outcome_by : List Outcome → Option Origin → Outcome
outcome_by outcomes None = NoValue
outcome_by outcomes (Some (Parameter value)) = Value value
outcome_by outcomes (Some (Label place)) = slice_index_or outcomes place NoValue

abbrev pub names_in : Names → List Outcome → List ℕ → Outcome
names_in names outcomes name = outcome_by outcomes (origin_in names name)

-- the expression of an EQU
abbrev pub equation_of : Stmt → Option (List Term)
equation_of s = if is_equation (part_of s.name) then first_expression s.operands else None

-- how many labels aren't circular, or are known not to be
abbrev pub is_settled : Outcome → Bool
is_settled (Value z) = true
is_settled NoValue = true
is_settled Circular = false

abbrev pub settled_count : List Outcome → ℕ
settled_count outcomes = count_by is_settled outcomes

abbrev pub means_in : Names → List Meaning → List ℕ → Meaning
means_in names labels name = meaning_of labels (origin_in names name)

-- the expression that a label equals
abbrev pub equation_at : Meaning → Option (List Term)
equation_at (Fixed outcome) = None
equation_at (Equals terms) = Some terms

abbrev pub IsFixedBy : Outcome → Meaning → Type 0
IsFixedBy outcome (Fixed known) = outcome ≡ known
IsFixedBy outcome (Equals terms) = Unit {0}

-- outcomes of the labels of statements with these meanings, so far: what is known is as it is known, and what isn't circular is the outcome of its name
pub record AreSettling (names : Names) (statements : List Stmt) (labels : List Meaning) (outcomes : List Outcome) : Type 0 where
  pub count : length outcomes ≡ length statements
  pub equations : (place : ℕ) (s : Stmt) → place < length statements → s ≡ slice_index_or statements place s → equation_at (slice_index_or labels place (Fixed NoValue)) ≡ equation_of s
  pub known : (place : ℕ) → IsFixedBy (slice_index_or outcomes place NoValue) (slice_index_or labels place (Fixed NoValue))
  pub sound : (name : List ℕ) → is_circular (names_in names outcomes name) ≡ false → outcome_within (settled_count outcomes) (means_in names labels) name ≡ names_in names outcomes name

-- an EQU that is still circular names such a one
abbrev pub QuietBy : (List ℕ → Outcome) → Outcome → Meaning → Type 0
QuietBy names Circular (Equals terms) = some_name (λ name. is_circular (names name)) terms ≡ true
QuietBy names Circular (Fixed outcome) = Unit {0}
QuietBy names (Value z) meaning = Unit {0}
QuietBy names NoValue meaning = Unit {0}

abbrev pub IsQuiet : Names → List Meaning → List Outcome → ℕ → Type 0
IsQuiet names labels outcomes place = QuietBy (names_in names outcomes) (slice_index_or outcomes place NoValue) (slice_index_or labels place (Fixed NoValue))

-- counts of the code stay at 2^64 - 1
abbrev pub capped : Spot → Spot
capped spot = record spot { cells = min spot.cells (2 ^ 64 - 1); statements = min spot.statements (2 ^ 64 - 1) }

-- expressions as the code lends them
abbrev pub terms_of : List (Bor (List Term)) → List (List Term)
terms_of expressions = map (λ terms. terms.now) expressions

-- the operand at this place is no expression
abbrev pub is_apart_at : List Place → ℕ → Bool
is_apart_at places i = option_map_or (λ place. is_apart place.kind) (slice_get places i) false
