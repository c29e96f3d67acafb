-- The symbols of a source: their values, and the limits of a source.
use Rattle.std.specs.Prelude.{ℕ, ◌+◌, ◌≤◌, List, map, length, Option, Some, None, slice_index_or, false, option_and_then, if◌then◌else◌, ℤ}
use Rattle.std.specs.Int.{div_ceil}
use Rattle.layout_params.specs.Parameters.{Parameters}
use Rattle.sil_operands.specs.declared.expr.Term.{Term}
use Rattle.sil_symbols.specs.declared.addresses.Spot.{Spot}
use Rattle.sil_base.specs.declared.limits.TheConstants.{MAX_CELLS, MAX_STATEMENTS}
use Rattle.sil_symbols.specs.declared.outcome.Outcome.{Outcome}
use Rattle.sil_symbols.specs.declared.outcome.Outcome.TheVariants.{Value, NoValue, Circular}
use Rattle.sil_symbols.specs.declared.stmt.Stmt.{Stmt}
use Rattle.sil_symbols.specs.StatementParts.{part_of, is_format}
use Rattle.sil_symbols.specs.Expressions.{outcome_of}
use Rattle.sil_symbols.specs.Labels.{labelled, origin}
use Rattle.sil_symbols.specs.NameValues.{meanings, meaning_of, outcome_within}
use Rattle.sil_symbols.specs.Addresses.{addresses_from, spot_after, first_spot}

-- the outcomes of names, where the labels of these statements have these addresses: no chain of EQUs without a circle is longer than the source
unfoldable pub names_with : Parameters → List Stmt → List Outcome → List ℕ → Outcome
names_with p statements addresses = outcome_within (length statements) (λ name. meaning_of (meanings addresses statements) (origin p statements name))

-- the outcomes for sizes, which rest on no address
abbrev pub size_names : Parameters → List Stmt → List ℕ → Outcome
size_names p statements = names_with p statements (map (λ s. NoValue) statements)

-- the address of each statement's label
abbrev pub addresses : Parameters → List Stmt → List Outcome
addresses p statements = addresses_from p.settings.sizes.descr (size_names p statements) first_spot statements

-- the outcomes of names
unfoldable pub names_of : Parameters → List Stmt → List ℕ → Outcome
names_of p statements = names_with p statements (addresses p statements)

abbrev pub value_in : Outcome → Option ℤ
value_in (Value z) = Some z
value_in NoValue = None
value_in Circular = None

-- the value of a name
abbrev pub value_of_name : Parameters → List Stmt → List ℕ → Option ℤ
value_of_name p statements name = value_in (names_of p statements name)

-- the value of an expression
abbrev pub value_of : Parameters → List Stmt → List Term → Option ℤ
value_of p statements terms = value_in (outcome_of (names_of p statements) terms)

-- the place of the FORMAT with this label
abbrev pub format_of : List Stmt → List ℕ → Option ℕ
format_of statements name =
    option_and_then (λ place. if slice_index_or (map (λ s. is_format (part_of s.name)) statements) place false then Some place else None) (labelled statements name)

-- the cells and the executable statements of a source
abbrev pub extent : Parameters → List Stmt → Spot
extent p statements = spot_after p.settings.sizes.descr (size_names p statements) first_spot statements

-- all cells: those of statements, the hidden buffer of 20 bytes, dynamic storage and the stack
abbrev pub all_cells : Parameters → List Stmt → ℕ
all_cells p statements = (extent p statements).cells + div_ceil 20 p.settings.sizes.descr + p.settings.dynamic_size + p.settings.stack_size

-- a source that is within the limits
pub record IsWithinLimits (p : Parameters) (statements : List Stmt) : Type 0 where
  pub cells : all_cells p statements ≤ MAX_CELLS
  pub executable : (extent p statements).statements ≤ MAX_STATEMENTS
