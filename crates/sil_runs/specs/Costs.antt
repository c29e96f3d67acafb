-- The instructions that a statement may take.
use Rattle.std.specs.Prelude.{ℕ, ◌+◌, ◌*◌, if◌then◌else◌}
use Rattle.sil_base.specs.declared.limits.TheConstants.{STATEMENT_INSTRUCTIONS, VISIT_INSTRUCTIONS}
use Rattle.layout_params.specs.Parameters.{Settings, Parameters}
use Rattle.sil_macros.specs.declared.names.Macro.{Macro}
use Rattle.sil_model.specs.declared.program.Program.{Program}
use Rattle.sil_model.specs.declared.program.Statement.{Statement}
use Rattle.sil_model.specs.Sites.{Site, site_of}
use Rattle.sil_model.specs.States.{State}
use Rattle.sil_model.specs.OperandCounts.{operand_count}
use Rattle.descr_clauses.specs.DescrTable.{is_of_descr, descr_visits}
use Rattle.choice_clauses.specs.ChoiceTable.{is_of_choice, choice_visits}
use Rattle.flow_clauses.specs.FlowTable.{is_of_flow, flow_visits}
use Rattle.unit_clauses.specs.UnitTable.{is_of_unit, unit_visits}
use Rattle.spec_clauses.specs.SpecTable.{is_of_spec, spec_visits}
use Rattle.string_clauses.specs.StringTable.{is_of_string, string_visits}
use Rattle.tree_clauses.specs.TreeTable.{is_of_tree, tree_visits}
use Rattle.table_clauses.specs.SyntaxTable.{is_of_table, table_visits}

-- the visits that the clause of a macro makes
abbrev pub visits : Macro → Site → State → ℕ
visits name = if is_of_descr name then descr_visits name else (if is_of_choice name then choice_visits name else (if is_of_flow name then flow_visits name else (if is_of_unit name then unit_visits name else (if is_of_spec name then spec_visits name else (if is_of_string name then string_visits name else (if is_of_tree name then tree_visits name else (if is_of_table name then table_visits name else (λ site s. 0))))))))

unfoldable pub weight : Program → Parameters → Statement → State → ℕ
weight program parameters statement s = operand_count statement.args + visits statement.name (site_of program parameters s.statement statement) s

unfoldable pub cost : Program → Parameters → Statement → State → ℕ
cost program parameters statement s = STATEMENT_INSTRUCTIONS + VISIT_INSTRUCTIONS * weight program parameters statement s

-- no valid state makes a statement weigh more, by the number of all cells
abbrev pub weight_limit : Settings → ℕ → ℕ
weight_limit settings cells = 4096 + 4 * cells * settings.sizes.descr
