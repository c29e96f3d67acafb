use Rattle.std.proofs.Common.{◌≡◌, ◌++◌, drop}
use Rattle.sil_symbols.specs.SymbolRules.{name_rule, faults_from}
use Rattle.sil_symbols.specs.HeldNames.{parameter_in, label_in}
use Rattle.sil_symbols.proofs.faults.name_faults.Given as goal

abbrev pub invariant-loop-place : goal.invariant-loop-place
invariant-loop-place l =
    l.faults.items ++ faults_from 78 (name_rule (parameter_in l.names) (label_in l.names)) l.place (drop l.place l.statements)
    ≡ faults_from 78 (name_rule (parameter_in l.names) (label_in l.names)) 0 l.statements
