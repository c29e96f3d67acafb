-- The special symbols, and the rule P1.
use Rattle.std.specs.Prelude.{ℕ, List, codes, Option, Some, None, option_and_then, if◌then◌else◌, ℤ}
use Rattle.layout_params.specs.Parameters.{Parameters}
use Rattle.layout_params.specs.Sizes.{value_limit}
use Rattle.sil_base.specs.declared.line.Fault.{Fault}
use Rattle.sil_symbols.specs.declared.stmt.Stmt.{Stmt}
use Rattle.sil_symbols.specs.SymbolRules.{faults_from}
use Rattle.sil_symbols.specs.Symbols.{value_of_name}
use Rattle.sil_shapes.specs.Locations.{executable_count, statement_at, number_within}
use Rattle.sil_model.specs.declared.program.Specials.{Specials}
use Rattle.sil_model.specs.Needs.{has_needed}

-- the special symbols, where the values of names are given: none where a symbol is missing or unfit
abbrev pub specials_of : ℕ → ℕ → ℕ → (List ℕ → Option ℤ) → Specials
specials_of size count limit values = record {
  over = option_and_then (statement_at size count) (values (codes "OVER"));
  under = option_and_then (statement_at size count) (values (codes "INTR10"));
  stype = values (codes "STYPE");
  first = values (codes "FRSGPT");
  head = values (codes "HDSGPT");
  tail = values (codes "TLSGP1");
  int_code = option_and_then (number_within limit) (values (codes "I"));
}

-- those of a source
abbrev pub specials_in : Parameters → List Stmt → Specials
specials_in p source = specials_of p.settings.sizes.descr (executable_count source) (value_limit p.settings.sizes) (value_of_name p source)

-- P1: the macro needs a special symbol that is missing or unfit
abbrev pub special_rule : Specials → ℕ → Stmt → Option ℕ
special_rule specials place s = if has_needed specials s.name then None else Some 1

-- the statements that break it; 80 is P
unfoldable pub special_faults : Parameters → List Stmt → List Fault
special_faults p source = faults_from 80 (special_rule (specials_in p source)) 0 source
