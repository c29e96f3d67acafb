use Rattle.std.proofs.Common.{◌≡◌, ◌++◌, drop}
use Rattle.sil_symbols.specs.SymbolRules.{faults_from}
use Rattle.sil_shapes.specs.ShapeRules.{statement_rule}
use Rattle.sil_shapes.specs.HeldSources.{measure_in}
use Rattle.sil_shapes.proofs.faults.statement_faults.Given as goal

abbrev pub invariant-loop-statement : goal.invariant-loop-statement
invariant-loop-statement l =
    let rule = statement_rule (measure_in l.fn.source) in
    faults_from 83 rule 0 l.statement-items ≡ l.faults.items ++ faults_from 83 rule l.statement-index (drop l.statement-index l.statement-items)
