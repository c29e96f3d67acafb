use Rattle.std.proofs.Common.{◌≡◌, ◌++◌, drop}
use Rattle.sil_symbols.specs.SymbolRules.{faults_from}
use Rattle.syntax_tables.specs.TableFiles.{names_in, table_named}
use Rattle.sil_program.specs.TableFaults.{table_rule}
use Rattle.sil_program.proofs.tables.operand_faults.Given as goal

abbrev pub invariant-loop-statement : goal.invariant-loop-statement
invariant-loop-statement l =
    let rule = table_rule (table_named (names_in l.tables)) in
    faults_from 84 rule 0 l.statements ≡ l.faults.items ++ faults_from 84 rule l.statement-index (drop l.statement-index l.statements)
