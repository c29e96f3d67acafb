-- The table of clauses, by groups.
use Rattle.std.specs.Prelude.{if◌then◌else◌}
use Rattle.sil_macros.specs.declared.names.Macro.{Macro}
use Rattle.sil_model.specs.Effects.{Effect, no_clause}
use Rattle.sil_model.specs.Sites.{Site}
use Rattle.sil_model.specs.States.{State}
use Rattle.descr_clauses.specs.DescrTable.{is_of_descr, descr_clause}
use Rattle.choice_clauses.specs.ChoiceTable.{is_of_choice, choice_clause}
use Rattle.flow_clauses.specs.FlowTable.{is_of_flow, flow_clause}
use Rattle.unit_clauses.specs.UnitTable.{is_of_unit, unit_clause}
use Rattle.spec_clauses.specs.SpecTable.{is_of_spec, spec_clause}
use Rattle.string_clauses.specs.StringTable.{is_of_string, string_clause}
use Rattle.tree_clauses.specs.TreeTable.{is_of_tree, tree_clause}
use Rattle.table_clauses.specs.SyntaxTable.{is_of_table, table_clause}

-- the clause of a macro is that of its group
unfoldable pub clause : Macro → Site → State → Effect
clause name = if is_of_descr name then descr_clause name else (if is_of_choice name then choice_clause name else (if is_of_flow name then flow_clause name else (if is_of_unit name then unit_clause name else (if is_of_spec name then spec_clause name else (if is_of_string name then string_clause name else (if is_of_tree name then tree_clause name else (if is_of_table name then table_clause name else no_clause)))))))
