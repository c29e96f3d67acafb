use Rattle.std.proofs.Common.{ℕ, ◌+◌, ◌≤◌, ◌∙◌, ap, sym, subst, length, arith}
use Rattle.std.specs.List.{All}
use Rattle.sil_model.specs.WellFormed.{IsTable}
use Rattle.sil_symbols.specs.Resolved.{expression_value}
use Rattle.syntax_tables.specs.TableFiles.{names_in}
use Rattle.syntax_tables.specs.Tables.{faults_of, tables_of}
use Rattle.syntax_tables.proofs.Counts.{tables_count, few_names}
use Rattle.syntax_tables.proofs.binding.bind.Goals as goal

pub returns-clause-count : goal.returns-clause-count
unfolding tables_of
returns-clause-count c =
    ap length c.in_ok-tables_of.ensures.tables
    ∙ tables_count (expression_value c.args.symbols.now) (names_in c.args.written.now) c.args.written.now

pub returns-clause-few : goal.returns-clause-few
unfolding faults_of
returns-clause-few c =
    let written = c.args.written.now in
    let count = returns-clause-count c in
    let few : 0 + length (names_in written) ≤ 256 = few_names (expression_value c.args.symbols.now) (names_in written) 0 written (omega arith) c.in_ok-stop_at_faults.ensures.faultless in
    omega arith

pub returns-clause-good : goal.returns-clause-good
returns-clause-good c =
    let items = c.in_ok-tables_of.field-0.items in
    subst (λ (n : ℕ). All (IsTable n) items) (sym (returns-clause-count c)) c.in_ok-tables_of.ensures.good
