-- The faults of statements, of data, of tables and of special symbols: there are none, and there is a program.
use Rattle.std.proofs.Common.{◌≡◌, ℕ, ◌+◌, ◌≤◌, true, List, [], ◌∷◌, ◌++◌, length, Option, Some, None, refl}
use Rattle.std.specs.Prelude.{is_some, codes}
use Rattle.std.specs.List.{list_all}
use Rattle.std.specs.declared.result.Result.{Result}
use Rattle.std.specs.declared.result.Result.TheVariants.{Ok}
use Rattle.layout_params.specs.Parameters.{standard}
use Rattle.sil_format.specs.FormatReading.{is_format}
use Rattle.sil_symbols.specs.declared.stmt.Stmt.{Stmt}
use Rattle.sil_symbols.specs.Symbols.{format_of}
use Rattle.sil_shapes.specs.Shapes.{fits}
use Rattle.sil_shapes.specs.ShapeRules.{measure_of, statement_rule, statement_faults}
use Rattle.data_asm.specs.DataFaults.{data_rule, data_faults}
use Rattle.syntax_tables.specs.TableFiles.{names_in, table_named, written_of}
use Rattle.syntax_tables.specs.Tables as tables
use Rattle.sil_model.specs.declared.program.Program.{Program}
use Rattle.sil_model.specs.declared.program.Specials.{Specials}
use Rattle.sil_arguments.specs.declared.stop.ProgramStop.{ProgramStop}
use Rattle.sil_program.specs.Built.{is_built}
use Rattle.sil_program.specs.Programs.{program_of}
use Rattle.sil_program.specs.ProgramLaws.{LawOfPrograms}
use Rattle.sil_program.specs.TableFaults.{table_rule, operand_faults, table_faults}
use Rattle.sil_program.specs.Specials.{special_rule, special_faults, specials_in}
use Rattle.sil_program.specs.Verdicts.{is_built_statement, is_built_source, made, verdict_of}
use Rattle.demo_checks.proofs.Forms.{AllBody, tail_stmts, KeepsTail, all_clean}
use Rattle.demo_checks.proofs.SymbolsFound.{format_found}
use Rattle.demo_checks.proofs.SymbolPhases.{no_symbol_faults}

-- ---- statements

statement_tail : (source : List Stmt) (n count place : ℕ) → format_of source (codes "F") ≡ Some place → KeepsTail (statement_rule (measure_of standard source)) n count
unfolding fits
statement_tail source n count place found = record {
  output = rw found refl;
  endex = refl;
  x = refl;
  y = refl;
  z = refl;
  u = refl;
  f = refl;
  end = refl;
}

pub no_statement_faults : (n count : ℕ) (body : List Stmt) → AllBody body → n ≡ length body → statement_faults standard (body ++ tail_stmts count) ≡ []
unfolding statement_faults
no_statement_faults n count body all size =
    all_clean 83 (statement_rule (measure_of standard (body ++ tail_stmts count))) n count body (λ place s kept. kept.shape (measure_of standard (body ++ tail_stmts count)) place)
    (statement_tail (body ++ tail_stmts count) n count (n + 1 + 1 + 1 + 1 + 1 + 1) (format_found n count body all size)) all size

-- ---- data

data_tail : (source : List Stmt) (n count : ℕ) → KeepsTail (data_rule standard source) n count
unfolding is_format
data_tail source n count = record { output = refl; endex = refl; x = refl; y = refl; z = refl; u = refl; f = refl; end = refl }

pub no_data_faults : (n count : ℕ) (body : List Stmt) → AllBody body → n ≡ length body → data_faults standard (body ++ tail_stmts count) ≡ []
unfolding data_faults
no_data_faults n count body all size =
    all_clean 65 (data_rule standard (body ++ tail_stmts count)) n count body (λ place s kept. kept.data_kept standard (body ++ tail_stmts count) place) (data_tail (body ++ tail_stmts count) n count) all size

-- ---- tables

table_tail : (found : List ℕ → Option ℕ) (n count : ℕ) → KeepsTail (table_rule found) n count
table_tail found n count = record { output = refl; endex = refl; x = refl; y = refl; z = refl; u = refl; f = refl; end = refl }

no_operand_faults : (found : List ℕ → Option ℕ) (n count : ℕ) (body : List Stmt) → AllBody body → n ≡ length body → operand_faults found (body ++ tail_stmts count) ≡ []
unfolding operand_faults
no_operand_faults found n count body all size =
    all_clean 84 (table_rule found) n count body (λ place s kept. kept.tables found place) (table_tail found n count) all size

pub no_table_faults : (n count : ℕ) (body : List Stmt) → AllBody body → n ≡ length body → table_faults standard (body ++ tail_stmts count) [] ≡ []
unfolding tables.faults_of
no_table_faults n count body all size = rw (no_operand_faults (table_named (names_in [])) n count body all size) refl

pub no_lines : written_of [] ≡ Ok []
unfolding written_of
no_lines = refl

-- ---- special symbols

special_tail : (specials : Specials) (n count : ℕ) → KeepsTail (special_rule specials) n count
special_tail specials n count = record { output = refl; endex = refl; x = refl; y = refl; z = refl; u = refl; f = refl; end = refl }

pub no_special_faults : (n count : ℕ) (body : List Stmt) → AllBody body → n ≡ length body → special_faults standard (body ++ tail_stmts count) ≡ []
unfolding special_faults
no_special_faults n count body all size =
    all_clean 80 (special_rule (specials_in standard (body ++ tail_stmts count))) n count body (λ place s kept. kept.specials (specials_in standard (body ++ tail_stmts count)) place)
    (special_tail (specials_in standard (body ++ tail_stmts count)) n count) all size

-- ---- the program

tail_built : (count : ℕ) → list_all is_built_statement (tail_stmts count) ≡ true
unfolding is_built
tail_built count = refl

pub all_built : (count : ℕ) (body : List Stmt) → AllBody body → is_built_source (body ++ tail_stmts count) ≡ true
all_built count [] all = tail_built count
all_built count (s ∷ body) all = rw (all.0.built, all_built count body all.1) refl

-- a program, where there is one
pub record HasProgram (answer : Result Program ProgramStop) : Type 0 where
  pub program : Program
  pub is : answer ≡ Ok program

program_made : (o : Option Program) → is_some o ≡ true → HasProgram (made o)
program_made None h = absurd (let none : ⊥ = cc in none)
program_made (Some program) h = record { program = program; is = refl }

pub statements_pass : (programs : LawOfPrograms) (n count : ℕ) (body : List Stmt) → n ≤ 16000 → AllBody body → n ≡ length body → HasProgram (verdict_of standard (body ++ tail_stmts count) [])
statements_pass programs n count body few all size =
    let symbols = no_symbol_faults n count body few all size in
    let shapes = no_statement_faults n count body all size in
    let rules = no_table_faults n count body all size in
    let there = program_made (program_of standard (body ++ tail_stmts count) []) (programs standard (body ++ tail_stmts count) [] symbols shapes rules) in
    record {
      program = there.program;
      is = rw (symbols, shapes, no_data_faults n count body all size, no_lines, rules, no_special_faults n count body all size, all_built count body all) there.is;
    }
