-- What the symbols of a source are, and why there are none.
use Rattle.std.specs.Prelude.{◌≡◌, ◌+◌, ℕ, List, [], Option, Some, None, option_and_then, slice_index_or, ◌||◌, nat_lt, false, Bool, if◌then◌else◌, ℤ}
use Rattle.std.specs.Int.{div_ceil}
use Rattle.layout_params.specs.Parameters.{Parameters}
use Rattle.sil_operands.specs.declared.expr.Term.{Term}
use Rattle.sil_symbols.specs.declared.addresses.Spot.{Spot}
use Rattle.sil_base.specs.declared.limits.TheConstants.{MAX_CELLS, MAX_STATEMENTS}
use Rattle.sil_symbols.specs.declared.names.Names.{Names}
use Rattle.sil_symbols.specs.declared.stmt.Stmt.{Stmt}
use Rattle.sil_symbols.specs.declared.symbols.Outcomes.{Outcomes}
use Rattle.sil_symbols.specs.declared.symbols.Symbols.{Symbols}
use Rattle.sil_symbols.specs.Expressions.{outcome_of}
use Rattle.sil_symbols.specs.Symbols.{value_in, value_of_name, value_of, format_of, size_names, names_of}
use Rattle.sil_symbols.specs.SymbolRules.{is_over}
use Rattle.sil_symbols.specs.HeldNames.{names_in, label_in}

-- the value of a name and of an expression, and the place of a FORMAT, by symbols
unfoldable pub symbol_value : Symbols → List ℕ → Option ℤ
symbol_value s name = value_in (names_in s.names s.outcomes.items name)

unfoldable pub expression_value : Symbols → List Term → Option ℤ
expression_value s terms = value_in (outcome_of (names_in s.names s.outcomes.items) terms)

unfoldable pub symbol_format : Symbols → List ℕ → Option ℕ
symbol_format s name = option_and_then (λ place. if slice_index_or s.formats.items place false then Some place else None) (label_in s.names name)

-- they are those of the source
pub record Resolves (p : Parameters) (statements : List Stmt) (s : Symbols) : Type 0 where
  pub values : (name : List ℕ) → symbol_value s name ≡ value_of_name p statements name
  pub expressions : (terms : List Term) → expression_value s terms ≡ value_of p statements terms
  pub formats : (name : List ℕ) → symbol_format s name ≡ format_of statements name

-- outcomes as the code holds them are those of the source
pub record AreOutcomes (p : Parameters) (statements : List Stmt) (names : Names) (o : Outcomes) : Type 0 where
  pub sizes : names_in names o.sizes.items ≡ size_names p statements
  pub outcomes : names_in names o.outcomes.items ≡ names_of p statements
  pub over : o.is_over ≡ is_over p statements

-- a source of this extent is over its limits
abbrev pub is_past : Parameters → Spot → Bool
is_past p extent = nat_lt MAX_CELLS (extent.cells + div_ceil 20 p.settings.sizes.descr + p.settings.dynamic_size + p.settings.stack_size) || nat_lt MAX_STATEMENTS extent.statements
