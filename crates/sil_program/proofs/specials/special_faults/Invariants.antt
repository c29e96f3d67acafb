use Rattle.std.proofs.Common.{◌≡◌, ◌++◌, drop}
use Rattle.sil_symbols.specs.SymbolRules.{faults_from}
use Rattle.sil_program.specs.Specials.{special_rule}
use Rattle.sil_program.proofs.specials.special_faults.Given as goal

abbrev pub invariant-loop-statement : goal.invariant-loop-statement
invariant-loop-statement l =
    let rule = special_rule l.fn.specials in
    faults_from 80 rule 0 l.statement-items ≡ l.faults.items ++ faults_from 80 rule l.statement-index (drop l.statement-index l.statement-items)
