use Rattle.std.proofs.Common.{◌≡◌, ◌≤◌, ◌++◌, drop}
use Rattle.sil_symbols.specs.Resolved.{expression_value}
use Rattle.syntax_tables.specs.TableFiles.{names_in}
use Rattle.syntax_tables.specs.Tables.{faults_from}
use Rattle.syntax_tables.proofs.binding.faults_of.Given as goal

abbrev pub invariant-loop-said : goal.invariant-loop-said
invariant-loop-said l = record {
  few : l.count ≤ l.said-index;
  faults : l.faults.items ++ faults_from (expression_value l.symbols) (names_in l.written) l.count (drop l.said-index l.said-items)
      ≡ faults_from (expression_value l.symbols) (names_in l.written) 0 l.said-items;
}
