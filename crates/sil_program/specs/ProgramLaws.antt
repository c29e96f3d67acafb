-- The law of programs.
use Rattle.std.specs.Prelude.{◌≡◌, List, [], is_some, true}
use Rattle.layout_params.specs.Parameters.{Parameters}
use Rattle.sil_symbols.specs.declared.stmt.Stmt.{Stmt}
use Rattle.sil_symbols.specs.SymbolRules.{faults_of}
use Rattle.sil_shapes.specs.ShapeRules.{statement_faults}
use Rattle.syntax_tables.specs.declared.saying.Said.{Said}
use Rattle.sil_program.specs.TableFaults.{table_faults}
use Rattle.sil_program.specs.Programs.{program_of}

-- a source without faults of symbols, of statements and of tables has a program
abbrev pub LawOfPrograms : Type 0
LawOfPrograms = (p : Parameters) (source : List Stmt) (lines : List Said) → faults_of p source ≡ [] → statement_faults p source ≡ [] → table_faults p source lines ≡ [] → is_some (program_of p source lines) ≡ true
