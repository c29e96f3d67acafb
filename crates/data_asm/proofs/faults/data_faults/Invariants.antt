use Rattle.std.proofs.Common.{◌≡◌, ◌++◌, drop}
use Rattle.sil_symbols.specs.SymbolRules.{faults_from}
use Rattle.data_asm.specs.DataFaults.{data_rule}
use Rattle.data_asm.proofs.faults.data_faults.Given as goal

abbrev pub invariant-loop-statement : goal.invariant-loop-statement
invariant-loop-statement l =
    let rule = data_rule l.fn.source.params.now l.fn.source.statements.now in
    faults_from 65 rule 0 l.statement-items ≡ l.faults.items ++ faults_from 65 rule l.statement-index (drop l.statement-index l.statement-items)
