-- The program of statements.
use Rattle.std.specs.Prelude.{ℕ, List, [], ◌∷◌, Option, Some, option_map, if◌then◌else◌}
use Rattle.layout_params.specs.declared.cell.Cell.{Cell}
use Rattle.layout_params.specs.Parameters.{Parameters}
use Rattle.sil_macros.specs.MacroRows.{row}
use Rattle.sil_symbols.specs.declared.stmt.Stmt.{Stmt}
use Rattle.sil_symbols.specs.StatementParts.{part_of, is_format}
use Rattle.sil_symbols.specs.Symbols.{value_of}
use Rattle.syntax_tables.specs.declared.saying.Said.{Said}
use Rattle.syntax_tables.specs.Tables.{tables_of}
use Rattle.data_asm.specs.DataFields.{first_text}
use Rattle.data_asm.specs.Cells.{static_cells_of}
use Rattle.sil_model.specs.declared.program.Arg.{Arg}
use Rattle.sil_model.specs.declared.program.Program.{Program}
use Rattle.sil_model.specs.declared.program.Statement.{Statement}
use Rattle.sil_arguments.specs.MadeArguments.{Scope, scope_of, args_of, and_before}
use Rattle.sil_program.specs.Specials.{specials_in}

abbrev pub statement_with : Stmt → List Arg → Statement
statement_with s args = record { card = s.card; name = s.name; args = args }

-- an executable statement, as the machine takes it
abbrev pub machine_statement : Scope → Stmt → Option Statement
machine_statement scope s = option_map (statement_with s) (args_of scope (row s.name).places s.operands)

-- the executable statements in order, where each of them has its operands
abbrev pub machine_statements : Scope → List Stmt → Option (List Statement)
machine_statements scope [] = Some []
machine_statements scope (s ∷ statements) =
    if (row s.name).assembly
    then machine_statements scope statements
    else and_before (machine_statement scope s) (machine_statements scope statements)

-- the texts of FORMAT statements, in order
abbrev pub formats_of : List Stmt → List (List ℕ)
formats_of [] = []
formats_of (s ∷ source) = if is_format (part_of s.name) then first_text s.operands ∷ formats_of source else formats_of source

-- the program of these executable statements and static cells, and of the lines of a tables file
abbrev pub program_with : Parameters → List Stmt → List Said → List Cell → List Statement → Program
program_with p source lines cells statements = record {
  statements = statements;
  cells = cells;
  tables = tables_of (value_of p source) lines;
  formats = formats_of source;
  specials = specials_in p source;
}

abbrev pub program_over : Parameters → List Stmt → List Said → List Cell → Option Program
program_over p source lines cells =
    option_map (program_with p source lines cells) (machine_statements (scope_of p source lines) source)

-- the program of a source and of the lines of a tables file
unfoldable pub program_of : Parameters → List Stmt → List Said → Option Program
program_of p source lines = program_over p source lines (static_cells_of p source)
