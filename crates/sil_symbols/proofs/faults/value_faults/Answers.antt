use Rattle.std.proofs.Common.{arith}
use Rattle.sil_symbols.specs.SymbolRules.{value_rule}
use Rattle.sil_symbols.specs.HeldNames.{names_in}
use Rattle.sil_symbols.proofs.RuleLemmas.{faults_more}
use Rattle.sil_symbols.proofs.faults.value_faults.Goals as goal

pub loop-statement-preserved : goal.loop-statement-preserved
loop-statement-preserved c =
    let v = c.args.values.now in
    faults_more 86 (value_rule (names_in v.names.now v.sizes.now) (names_in v.names.now v.outcomes.now) v.is_over) c.args.statements.now c.loop-statement.statement-index c.statement-item.result
    c.loop-statement.faults.items c.push_fault.new.faults.items _ c.in_ok-rule.rule (omega arith) c.statement-item.is c.in_ok-rule.ensures c.in_ok-push_fault.ensures c.loop-statement.invariant
