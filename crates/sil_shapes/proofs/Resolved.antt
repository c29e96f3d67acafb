-- The values that symbols have.
use Rattle.std.proofs.Common.{◌≡◌, ℕ, List}
use Rattle.layout_params.specs.Parameters.{Parameters}
use Rattle.sil_operands.specs.declared.expr.Term.{Term}
use Rattle.sil_symbols.specs.declared.stmt.Stmt.{Stmt}
use Rattle.sil_symbols.specs.declared.symbols.Symbols.{Symbols}
use Rattle.sil_symbols.specs.Symbols.{value_of, value_of_name, format_of}
use Rattle.sil_symbols.specs.Resolved.{Resolves, symbol_value, expression_value, symbol_format}

pub resolved_name : (p : Parameters) (source : List Stmt) (s : Symbols) (name : List ℕ) → Resolves p source s → symbol_value s name ≡ value_of_name p source name
resolved_name p source s name h = h.values name

pub resolved_value : (p : Parameters) (source : List Stmt) (s : Symbols) (terms : List Term) → Resolves p source s → expression_value s terms ≡ value_of p source terms
resolved_value p source s terms h = h.expressions terms

pub resolved_format : (p : Parameters) (source : List Stmt) (s : Symbols) (name : List ℕ) → Resolves p source s → symbol_format s name ≡ format_of source name
resolved_format p source s name h = h.formats name
