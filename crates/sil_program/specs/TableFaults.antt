-- The faults of syntax tables: those of their file, and of the operands that name tables.
use Rattle.std.specs.Prelude.{ℕ, List, [], ◌∷◌, ◌++◌, Option, Some, None, option_and_then, is_none, Bool, false, ◌||◌, if◌then◌else◌}
use Rattle.layout_params.specs.Parameters.{Parameters}
use Rattle.sil_base.specs.declared.line.Fault.{Fault}
use Rattle.sil_macros.specs.declared.shapes.Kind.{Kind}
use Rattle.sil_macros.specs.declared.shapes.Kind.TheVariants as kind
use Rattle.sil_macros.specs.declared.shapes.Place.{Place}
use Rattle.sil_macros.specs.MacroRows.{row}
use Rattle.sil_operands.specs.declared.operand.Operand.{Operand}
use Rattle.sil_operands.specs.declared.operand.Operand.TheVariants.{Expr}
use Rattle.sil_operands.specs.Simple.{named_alone}
use Rattle.sil_symbols.specs.declared.stmt.Stmt.{Stmt}
use Rattle.sil_symbols.specs.SymbolRules.{faults_from}
use Rattle.sil_symbols.specs.Symbols.{value_of}
use Rattle.syntax_tables.specs.declared.saying.Said.{Said}
use Rattle.syntax_tables.specs.TableFiles.{names_in, table_named}
use Rattle.syntax_tables.specs.Tables.{faults_of}
use Rattle.sil_arguments.specs.MadeArguments.{first_of, rest_of}

-- an operand in the place of a table is the name of none
abbrev pub is_astray : (List ℕ → Option ℕ) → Kind → Operand → Bool
is_astray tables kind.Table (Expr terms) = is_none (option_and_then tables (named_alone terms))
is_astray tables _ operand = false

abbrev pub goes_astray : (List ℕ → Option ℕ) → List Place → List Operand → Bool
goes_astray tables [] operands = false
goes_astray tables (place ∷ places) operands = is_astray tables place.kind (first_of operands) || goes_astray tables places (rest_of operands)

-- T7: a table operand names no table
abbrev pub table_rule : (List ℕ → Option ℕ) → ℕ → Stmt → Option ℕ
table_rule tables place s = if goes_astray tables (row s.name).places s.operands then Some 7 else None

-- 84 is T
unfoldable pub operand_faults : (List ℕ → Option ℕ) → List Stmt → List Fault
operand_faults tables source = faults_from 84 (table_rule tables) 0 source

-- the faults of operands, and of the lines of a tables file without a fault of form: the source stands before the tables
abbrev pub table_faults : Parameters → List Stmt → List Said → List Fault
table_faults p source lines = operand_faults (table_named (names_in lines)) source ++ faults_of (value_of p source) lines
