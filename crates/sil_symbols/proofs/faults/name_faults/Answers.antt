use Rattle.std.proofs.Common.{arith}
use Rattle.sil_symbols.specs.SymbolRules.{name_rule}
use Rattle.sil_symbols.specs.HeldNames.{parameter_in, label_in}
use Rattle.sil_symbols.proofs.RuleLemmas.{faults_more}
use Rattle.sil_symbols.proofs.faults.name_faults.Goals as goal

pub loop-place-preserved : goal.loop-place-preserved
loop-place-preserved c =
    faults_more 78 (name_rule (parameter_in c.args.names.now) (label_in c.args.names.now)) c.args.statements.now c.loop-place.place c.index-statements-place.result
    c.loop-place.faults.items c.push_fault.new.faults.items _ c.in_ok-rule.rule (omega arith) c.index-statements-place.is c.in_ok-rule.ensures c.in_ok-push_fault.ensures c.loop-place.invariant
