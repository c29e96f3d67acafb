-- The laws of each macro, by groups.
use Rattle.std.specs.Prelude.{ℕ, Bool, true, false, if◌then◌else◌}
use Rattle.std.proofs.Common.{arith}
use Rattle.sil_macros.specs.declared.names.Macro.{Macro}
use Rattle.sil_model.specs.Effects.{Effect, no_clause}
use Rattle.sil_model.specs.Sites.{Site}
use Rattle.sil_model.specs.States.{State}
use Rattle.sil_model.specs.UnitMacros.{KeepsTapes}
use Rattle.sil_model.proofs.Lawful.{IsLawful, few_lawful}
use Rattle.sil_model.proofs.Leaves.{Leaves}
use Rattle.descr_clauses.specs.DescrTable.{is_of_descr}
use Rattle.descr_clauses.proofs.DescrLaws.{descr_lawful}
use Rattle.choice_clauses.specs.ChoiceTable.{is_of_choice}
use Rattle.choice_clauses.proofs.ChoiceLaws.{choice_lawful}
use Rattle.flow_clauses.specs.FlowTable.{is_of_flow}
use Rattle.flow_clauses.proofs.FlowTableLaws.{flow_lawful}
use Rattle.unit_clauses.specs.UnitTable.{is_of_unit}
use Rattle.unit_clauses.proofs.UnitTableLaws.{unit_lawful}
use Rattle.spec_clauses.specs.SpecTable.{is_of_spec}
use Rattle.spec_clauses.proofs.SpecLaws.{spec_lawful}
use Rattle.string_clauses.specs.StringTable.{is_of_string}
use Rattle.string_clauses.proofs.StringLaws.{string_lawful}
use Rattle.tree_clauses.specs.TreeTable.{is_of_tree}
use Rattle.tree_clauses.proofs.TreeLaws.{tree_lawful}
use Rattle.table_clauses.specs.SyntaxTable.{is_of_table}
use Rattle.table_clauses.proofs.SyntaxLaws.{table_lawful}
use Rattle.sil_runs.specs.Table.{clause}
use Rattle.sil_runs.specs.Costs.{visits}

of_none : (name : Macro) → IsLawful name no_clause (λ site s. 0)
unfolding Leaves KeepsTapes
of_none name = few_lawful name (λ site s h. tt) (λ site s h. tt) (λ site s h. omega arith)

-- of one of two groups
by_group : (name : Macro) (b : Bool) (c d : Site → State → Effect) (v w : Site → State → ℕ) → IsLawful name c v → IsLawful name d w → IsLawful name (if b then c else d) (if b then v else w)
by_group name true c d v w x y = x
by_group name false c d v w x y = y

pub lawful : (name : Macro) → IsLawful name (clause name) (visits name)
unfolding clause
lawful name = by_group name (is_of_descr name) _ _ _ _ (descr_lawful name) (by_group name (is_of_choice name) _ _ _ _ (choice_lawful name) (by_group name (is_of_flow name) _ _ _ _ (flow_lawful name) (by_group name (is_of_unit name) _ _ _ _ (unit_lawful name) (by_group name (is_of_spec name) _ _ _ _ (spec_lawful name) (by_group name (is_of_string name) _ _ _ _ (string_lawful name) (by_group name (is_of_tree name) _ _ _ _ (tree_lawful name) (by_group name (is_of_table name) _ _ _ _ (table_lawful name) (of_none name))))))))
