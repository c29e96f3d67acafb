-- The faults of data.
use Rattle.std.specs.Prelude.{ℕ, nat_le, List, length, Option, Some, None, ℤ, if◌then◌else◌, Bool, true, not, ◌&&◌}
use Rattle.layout_params.specs.Parameters.{Parameters}
use Rattle.layout_params.specs.Sizes.{flag_limit, value_limit}
use Rattle.sil_base.specs.declared.line.Fault.{Fault}
use Rattle.sil_macros.specs.declared.names.Macro.{Macro}
use Rattle.sil_macros.specs.declared.names.Macro.TheVariants as macros
use Rattle.sil_operands.specs.declared.expr.Term.{Term}
use Rattle.sil_operands.specs.declared.operand.Operand.{Operand}
use Rattle.sil_format.specs.FormatReading.{is_format}
use Rattle.sil_symbols.specs.declared.stmt.Stmt.{Stmt}
use Rattle.sil_symbols.specs.Symbols.{value_of}
use Rattle.sil_symbols.specs.SymbolRules.{faults_from}
use Rattle.data_asm.specs.DataFields.{first_text, first_fields, second_fields, fit}

-- each F of a statement, and each V or L, is within its limit
abbrev pub data_fits : ℕ → ℕ → (List Term → Option ℤ) → Macro → List Operand → Bool
data_fits flags most values macros.Descr operands = fit flags most (first_fields values operands)
data_fits flags most values macros.Spec operands = fit flags most (first_fields values operands) && fit flags most (second_fields values operands)
data_fits flags most values macros.String operands = nat_le (length (first_text operands)) most
data_fits flags most values _ operands = true

abbrev pub statement_fits : Parameters → List Stmt → Stmt → Bool
statement_fits p source s = data_fits (flag_limit p.settings.sizes) (value_limit p.settings.sizes) (value_of p source) s.name s.operands

-- the text of a FORMAT is a format
abbrev pub has_format : Macro → List Operand → Bool
has_format macros.Format operands = is_format (first_text operands)
has_format _ operands = true

abbrev pub is_formatted : Stmt → Bool
is_formatted s = has_format s.name s.operands

-- A1: an F, a V or an L isn't within its limit; A2: the text of a FORMAT is no format
abbrev pub data_rule : Parameters → List Stmt → ℕ → Stmt → Option ℕ
data_rule p source place s =
    if not (statement_fits p source s) then Some 1
    else if not (is_formatted s) then Some 2
    else None

-- the faults of the data of a source, whose letter is A
unfoldable pub data_faults : Parameters → List Stmt → List Fault
data_faults p source = faults_from 65 (data_rule p source) 0 source
