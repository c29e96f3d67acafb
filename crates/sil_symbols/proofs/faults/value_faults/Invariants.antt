use Rattle.std.proofs.Common.{◌≡◌, ◌++◌, drop}
use Rattle.sil_symbols.specs.SymbolRules.{value_rule, faults_from}
use Rattle.sil_symbols.specs.HeldNames.{names_in}
use Rattle.sil_symbols.proofs.faults.value_faults.Given as goal

abbrev pub invariant-loop-statement : goal.invariant-loop-statement
invariant-loop-statement l =
    l.faults.items ++ faults_from 86 (value_rule (names_in l.values.names.now l.values.sizes.now) (names_in l.values.names.now l.values.outcomes.now) l.values.is_over) l.statement-index (drop l.statement-index l.statements)
    ≡ faults_from 86 (value_rule (names_in l.values.names.now l.values.sizes.now) (names_in l.values.names.now l.values.outcomes.now) l.values.is_over) 0 l.statements
