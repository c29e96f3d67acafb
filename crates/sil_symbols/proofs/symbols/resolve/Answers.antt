use Rattle.std.proofs.Common.{◌≡◌, ◌≢◌, [], sym, ◌∙◌}
use Rattle.sil_symbols.specs.SymbolRules.{name_faults, value_faults}
use Rattle.sil_symbols.proofs.SymbolLemmas.{same_name_faults, same_value_faults, none_empty, some_not_empty, first_are_names, first_are_values, within_limits, resolves}
use Rattle.sil_symbols.proofs.symbols.resolve.Goals as goal

pub returns-then-not-is_empty-clause-faults : goal.returns-then-not-is_empty-clause-faults
returns-then-not-is_empty-clause-faults c =
    let p = c.args.params.now in
    let ss = c.args.statements.now in
    let names = c.in_ok-faults.faults in
    let some : names.items ≢ [] = some_not_empty names.items names.len names.ok.0 c.if-not-is_empty.ensures in
    let are = same_name_faults p ss c.in_ok-names.names c.in_ok-names.ensures names.items c.in_ok-faults.ensures in
    let same = c.of-then-not-is_empty.ensures in
    (same ∙ first_are_names (name_faults p ss) (value_faults p ss) names.items are some, λ e. some (sym same ∙ e))

pub returns-then-not-is_empty-2-clause-faults : goal.returns-then-not-is_empty-2-clause-faults
returns-then-not-is_empty-2-clause-faults c =
    let p = c.args.params.now in
    let ss = c.args.statements.now in
    let holds = c.in_ok-names.ensures in
    let names = c.in_ok-faults.faults in
    let values = c.in_ok-faults-2.faults in
    let none : names.items ≡ [] = none_empty names.items names.len names.ok.0 c.if-not-is_empty.ensures in
    let some : values.items ≢ [] = some_not_empty values.items values.len values.ok.0 c.if-not-is_empty-2.ensures in
    let names_are = same_name_faults p ss c.in_ok-names.names holds names.items c.in_ok-faults.ensures in
    let values_are = same_value_faults p ss c.in_ok-names.names c.in_ok-outcomes.outcomes (c.in_ok-outcomes.ensures holds) values.items c.in_ok-faults-2.ensures in
    let same = c.of-then-not-is_empty-2.ensures in
    (same ∙ first_are_values (name_faults p ss) (value_faults p ss) values.items names.items names_are none values_are, λ e. some (sym same ∙ e))

pub returns-clause-resolved : goal.returns-clause-resolved
returns-clause-resolved c =
    let holds = c.in_ok-names.ensures in
    resolves c.args.params.now c.args.statements.now c.in_ok-names.names c.in_ok-outcomes.outcomes c.in_ok-formats.formats holds (c.in_ok-outcomes.ensures holds) c.in_ok-formats.ensures

pub returns-clause-faultless : goal.returns-clause-faultless
returns-clause-faultless c =
    let p = c.args.params.now in
    let ss = c.args.statements.now in
    let holds = c.in_ok-names.ensures in
    let names = c.in_ok-faults.faults in
    let values = c.in_ok-faults-2.faults in
    let no_names : names.items ≡ [] = none_empty names.items names.len names.ok.0 c.if-not-is_empty.ensures in
    let no_values : values.items ≡ [] = none_empty values.items values.len values.ok.0 c.if-not-is_empty-2.ensures in
    let names_are = same_name_faults p ss c.in_ok-names.names holds names.items c.in_ok-faults.ensures in
    let values_are = same_value_faults p ss c.in_ok-names.names c.in_ok-outcomes.outcomes (c.in_ok-outcomes.ensures holds) values.items c.in_ok-faults-2.ensures in
    sym (first_are_values (name_faults p ss) (value_faults p ss) values.items names.items names_are no_names values_are) ∙ no_values

pub returns-clause-limits : goal.returns-clause-limits
returns-clause-limits c = λ ends.
    let p = c.args.params.now in
    let ss = c.args.statements.now in
    let holds = c.in_ok-names.ensures in
    let values = c.in_ok-faults-2.faults in
    let none : values.items ≡ [] = none_empty values.items values.len values.ok.0 c.if-not-is_empty-2.ensures in
    within_limits p ss ends (sym (same_value_faults p ss c.in_ok-names.names c.in_ok-outcomes.outcomes (c.in_ok-outcomes.ensures holds) values.items c.in_ok-faults-2.ensures) ∙ none)
