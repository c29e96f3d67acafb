-- In each group of expanders the table of clauses is the group's, and so is that of visits.
use Rattle.std.proofs.Common.{◌≡◌, ℕ, Bool, true, false, List, refl, arith}
use Rattle.std.specs.Prelude.{IsTrue, if◌then◌else◌}
use Rattle.sil_macros.specs.declared.names.Macro.{Macro}
use Rattle.sil_macros.specs.declared.names.Macro.TheVariants.{Acomp, Addlg, Addsib, Adjust, Apdsp, Branch, Endex, Expint, Linkor, Output, Push, Rewind, Stream, Top}
use Rattle.sil_model.specs.declared.program.Arg.{Arg}
use Rattle.sil_model.specs.declared.program.Specials.{Specials}
use Rattle.sil_model.specs.Effects.{Effect}
use Rattle.sil_model.specs.Sites.{Site}
use Rattle.sil_model.specs.States.{State}
use Rattle.descr_clauses.specs.DescrTable.{is_of_descr, descr_clause, descr_visits}
use Rattle.choice_clauses.specs.ChoiceTable.{is_of_choice, choice_clause, choice_visits}
use Rattle.flow_clauses.specs.FlowTable.{is_of_flow, flow_clause, flow_visits}
use Rattle.unit_clauses.specs.UnitTable.{is_of_unit, unit_clause, unit_visits}
use Rattle.spec_clauses.specs.SpecTable.{is_of_spec, spec_clause, spec_visits}
use Rattle.string_clauses.specs.StringTable.{is_of_string, string_clause, string_visits}
use Rattle.tree_clauses.specs.TreeTable.{is_of_tree, tree_clause, tree_visits}
use Rattle.table_clauses.specs.SyntaxTable.{is_of_table, table_clause, table_visits}
use Rattle.sil_runs.specs.Costs.{visits}
use Rattle.sil_runs.specs.Table.{clause}
use Rattle.sil_micro.specs.Codes.{MicroCode}
use Rattle.sil_micro.specs.Expands.{Expands}
use Rattle.exp_choices.specs.Group.{is_choice}
use Rattle.exp_control.specs.Group.{is_control}
use Rattle.exp_descr.specs.Group.{is_descr}
use Rattle.exp_flow.specs.Group.{is_flow}
use Rattle.exp_stack.specs.Group.{is_stack}
use Rattle.exp_units.specs.Group.{is_move, is_output}
use Rattle.exp_units.specs.InFormats.{ExpandsIn}
use Rattle.string_runtime.specs.Group.{is_string}
use Rattle.exp_spec.specs.Group.{is_spec}
use Rattle.exp_powers.specs.Group.{is_power}
use Rattle.exp_tables.specs.Group.{is_table}
use Rattle.pattern_runtime.specs.Group.{is_pattern}
use Rattle.exp_blocks.specs.Group.{is_block}
use Rattle.exp_trees.specs.Group.{is_tree}

-- ---- what is expanded in a group has its clause in the group's table, and in none before it

descr_of : (name : Macro) → IsTrue (is_descr name) → is_of_descr name ≡ true
descr_of Adjust h = refl
descr_of _ h = grind arith

abbrev IsChoice : Macro → Type 0
IsChoice name = (is_of_descr name ≡ false) × (is_of_choice name ≡ true)

choice_of : (name : Macro) → IsTrue (is_choice name) → IsChoice name
choice_of Acomp h = (refl, refl)
choice_of _ h = (grind arith, grind arith)

abbrev IsFlow : Macro → Type 0
IsFlow name = (is_of_descr name ≡ false) × (is_of_choice name ≡ false) × (is_of_flow name ≡ true)

flow_of : (name : Macro) → IsTrue (is_flow name) → IsFlow name
flow_of Endex h = (refl, refl, refl)
flow_of _ h = (grind arith, grind arith, grind arith)

stack_of : (name : Macro) → IsTrue (is_stack name) → IsFlow name
stack_of Push h = (refl, refl, refl)
stack_of _ h = (grind arith, grind arith, grind arith)

control_of : (name : Macro) → IsTrue (is_control name) → IsFlow name
control_of Branch h = (refl, refl, refl)
control_of _ h = (grind arith, grind arith, grind arith)

abbrev IsUnit : Macro → Type 0
IsUnit name = (is_of_descr name ≡ false) × (is_of_choice name ≡ false) × (is_of_flow name ≡ false) × (is_of_unit name ≡ true)

move_of : (name : Macro) → IsTrue (is_move name) → IsUnit name
move_of Rewind h = (refl, refl, refl, refl)
move_of _ h = (grind arith, grind arith, grind arith, grind arith)

output_of : (name : Macro) → IsTrue (is_output name) → IsUnit name
output_of Output h = (refl, refl, refl, refl)
output_of _ h = (grind arith, grind arith, grind arith, grind arith)

abbrev IsSpec : Macro → Type 0
IsSpec name = (is_of_descr name ≡ false) × (is_of_choice name ≡ false) × (is_of_flow name ≡ false) × (is_of_unit name ≡ false) × (is_of_spec name ≡ true)

spec_of : (name : Macro) → IsTrue (is_spec name) → IsSpec name
spec_of Addlg h = (refl, refl, refl, refl, refl)
spec_of _ h = (grind arith, grind arith, grind arith, grind arith, grind arith)

abbrev IsString : Macro → Type 0
IsString name = (is_of_descr name ≡ false) × (is_of_choice name ≡ false) × (is_of_flow name ≡ false) × (is_of_unit name ≡ false) × (is_of_spec name ≡ false) × (is_of_string name ≡ true)

string_of : (name : Macro) → IsTrue (is_string name) → IsString name
string_of Apdsp h = (refl, refl, refl, refl, refl, refl)
string_of _ h = (grind arith, grind arith, grind arith, grind arith, grind arith, grind arith)

abbrev IsTree : Macro → Type 0
IsTree name = (is_of_descr name ≡ false) × (is_of_choice name ≡ false) × (is_of_flow name ≡ false) × (is_of_unit name ≡ false) × (is_of_spec name ≡ false) × (is_of_string name ≡ false) × (is_of_tree name ≡ true)

tree_of : (name : Macro) → IsTrue (is_tree name) → IsTree name
tree_of Addsib h = (refl, refl, refl, refl, refl, refl, refl)
tree_of _ h = (grind arith, grind arith, grind arith, grind arith, grind arith, grind arith, grind arith)

block_of : (name : Macro) → IsTrue (is_block name) → IsTree name
block_of Top h = (refl, refl, refl, refl, refl, refl, refl)
block_of _ h = (grind arith, grind arith, grind arith, grind arith, grind arith, grind arith, grind arith)

pattern_of : (name : Macro) → IsTrue (is_pattern name) → IsTree name
pattern_of Linkor h = (refl, refl, refl, refl, refl, refl, refl)
pattern_of _ h = (grind arith, grind arith, grind arith, grind arith, grind arith, grind arith, grind arith)

abbrev IsTable : Macro → Type 0
IsTable name = (is_of_descr name ≡ false) × (is_of_choice name ≡ false) × (is_of_flow name ≡ false) × (is_of_unit name ≡ false) × (is_of_spec name ≡ false) × (is_of_string name ≡ false) × (is_of_tree name ≡ false) × (is_of_table name ≡ true)

table_of : (name : Macro) → IsTrue (is_table name) → IsTable name
table_of Stream h = (refl, refl, refl, refl, refl, refl, refl, refl)
table_of _ h = (grind arith, grind arith, grind arith, grind arith, grind arith, grind arith, grind arith, grind arith)

power_of : (name : Macro) → IsTrue (is_power name) → IsTree name
power_of Expint h = (refl, refl, refl, refl, refl, refl, refl)
power_of _ h = (grind arith, grind arith, grind arith, grind arith, grind arith, grind arith, grind arith)

-- ---- so an expansion by the group's table is one by the table

module _ {old new : MicroCode} {k : ℕ} {specials : Specials} {args : List Arg} {prints : Bool} where
  first : (b : Bool) (c d : Site → State → Effect) (v w : Site → State → ℕ) → b ≡ true → Expands old new k specials args c v prints → Expands old new k specials args (if b then c else d) (if b then v else w) prints
  first true c d v w e x = x
  first false c d v w e x = absurd (cc)

  second : (b : Bool) (c d : Site → State → Effect) (v w : Site → State → ℕ) → b ≡ false → Expands old new k specials args d w prints → Expands old new k specials args (if b then c else d) (if b then v else w) prints
  second true c d v w e x = absurd (cc)
  second false c d v w e x = x

  pub by_descr : (name : Macro) → IsTrue (is_descr name) → Expands old new k specials args (descr_clause name) (descr_visits name) prints → Expands old new k specials args (clause name) (visits name) prints
  unfolding clause
  by_descr name h x = first (is_of_descr name) _ _ _ _ (descr_of name h) x

  pub by_choice : (name : Macro) → IsTrue (is_choice name) → Expands old new k specials args (choice_clause name) (choice_visits name) prints → Expands old new k specials args (clause name) (visits name) prints
  unfolding clause
  by_choice name h x = let e = choice_of name h in second (is_of_descr name) _ _ _ _ e.0 (first (is_of_choice name) _ _ _ _ e.1 x)

  by_flows : (name : Macro) → IsFlow name → Expands old new k specials args (flow_clause name) (flow_visits name) prints → Expands old new k specials args (clause name) (visits name) prints
  unfolding clause
  by_flows name e x = second (is_of_descr name) _ _ _ _ e.0 (second (is_of_choice name) _ _ _ _ e.1 (first (is_of_flow name) _ _ _ _ e.2 x))

  pub by_flow : (name : Macro) → IsTrue (is_flow name) → Expands old new k specials args (flow_clause name) (flow_visits name) prints → Expands old new k specials args (clause name) (visits name) prints
  by_flow name h x = by_flows name (flow_of name h) x

  pub by_stack : (name : Macro) → IsTrue (is_stack name) → Expands old new k specials args (flow_clause name) (flow_visits name) prints → Expands old new k specials args (clause name) (visits name) prints
  by_stack name h x = by_flows name (stack_of name h) x

  pub by_control : (name : Macro) → IsTrue (is_control name) → Expands old new k specials args (flow_clause name) (flow_visits name) prints → Expands old new k specials args (clause name) (visits name) prints
  by_control name h x = by_flows name (control_of name h) x

  pub by_move : (name : Macro) → IsTrue (is_move name) → Expands old new k specials args (unit_clause name) (unit_visits name) prints → Expands old new k specials args (clause name) (visits name) prints
  unfolding clause
  by_move name h x =
      let e = move_of name h in
      second (is_of_descr name) _ _ _ _ e.0 (second (is_of_choice name) _ _ _ _ e.1 (second (is_of_flow name) _ _ _ _ e.2 (first (is_of_unit name) _ _ _ _ e.3 x)))

  pub by_spec : (name : Macro) → IsTrue (is_spec name) → Expands old new k specials args (spec_clause name) (spec_visits name) prints → Expands old new k specials args (clause name) (visits name) prints
  unfolding clause
  by_spec name h x =
      let e = spec_of name h in
      second (is_of_descr name) _ _ _ _ e.0 (second (is_of_choice name) _ _ _ _ e.1 (second (is_of_flow name) _ _ _ _ e.2 (second (is_of_unit name) _ _ _ _ e.3 (first (is_of_spec name) _ _ _ _ e.4 x))))

  pub by_string : (name : Macro) → IsTrue (is_string name) → Expands old new k specials args (string_clause name) (string_visits name) prints → Expands old new k specials args (clause name) (visits name) prints
  unfolding clause
  by_string name h x =
      let e = string_of name h in
      second (is_of_descr name) _ _ _ _ e.0 (second (is_of_choice name) _ _ _ _ e.1 (second (is_of_flow name) _ _ _ _ e.2 (second (is_of_unit name) _ _ _ _ e.3 (second (is_of_spec name) _ _ _ _ e.4 (first (is_of_string name) _ _ _ _ e.5 x)))))

  pub by_tree : (name : Macro) → IsTrue (is_tree name) → Expands old new k specials args (tree_clause name) (tree_visits name) prints → Expands old new k specials args (clause name) (visits name) prints
  unfolding clause
  by_tree name h x =
      let e = tree_of name h in
      second (is_of_descr name) _ _ _ _ e.0 (second (is_of_choice name) _ _ _ _ e.1 (second (is_of_flow name) _ _ _ _ e.2 (second (is_of_unit name) _ _ _ _ e.3 (second (is_of_spec name) _ _ _ _ e.4 (second (is_of_string name) _ _ _ _ e.5 (first (is_of_tree name) _ _ _ _ e.6 x))))))

  pub by_block : (name : Macro) → IsTrue (is_block name) → Expands old new k specials args (tree_clause name) (tree_visits name) prints → Expands old new k specials args (clause name) (visits name) prints
  unfolding clause
  by_block name h x =
      let e = block_of name h in
      second (is_of_descr name) _ _ _ _ e.0 (second (is_of_choice name) _ _ _ _ e.1 (second (is_of_flow name) _ _ _ _ e.2 (second (is_of_unit name) _ _ _ _ e.3 (second (is_of_spec name) _ _ _ _ e.4 (second (is_of_string name) _ _ _ _ e.5 (first (is_of_tree name) _ _ _ _ e.6 x))))))

  pub by_pattern : (name : Macro) → IsTrue (is_pattern name) → Expands old new k specials args (tree_clause name) (tree_visits name) prints → Expands old new k specials args (clause name) (visits name) prints
  unfolding clause
  by_pattern name h x =
      let e = pattern_of name h in
      second (is_of_descr name) _ _ _ _ e.0 (second (is_of_choice name) _ _ _ _ e.1 (second (is_of_flow name) _ _ _ _ e.2 (second (is_of_unit name) _ _ _ _ e.3 (second (is_of_spec name) _ _ _ _ e.4 (second (is_of_string name) _ _ _ _ e.5 (first (is_of_tree name) _ _ _ _ e.6 x))))))

  pub by_table : (name : Macro) → IsTrue (is_table name) → Expands old new k specials args (table_clause name) (table_visits name) prints → Expands old new k specials args (clause name) (visits name) prints
  unfolding clause
  by_table name h x =
      let e = table_of name h in
      second (is_of_descr name) _ _ _ _ e.0 (second (is_of_choice name) _ _ _ _ e.1 (second (is_of_flow name) _ _ _ _ e.2 (second (is_of_unit name) _ _ _ _ e.3 (second (is_of_spec name) _ _ _ _ e.4 (second (is_of_string name) _ _ _ _ e.5 (second (is_of_tree name) _ _ _ _ e.6 (first (is_of_table name) _ _ _ _ e.7 x)))))))

  pub by_power : (name : Macro) → IsTrue (is_power name) → Expands old new k specials args (tree_clause name) (tree_visits name) prints → Expands old new k specials args (clause name) (visits name) prints
  unfolding clause
  by_power name h x =
      let e = power_of name h in
      second (is_of_descr name) _ _ _ _ e.0 (second (is_of_choice name) _ _ _ _ e.1 (second (is_of_flow name) _ _ _ _ e.2 (second (is_of_unit name) _ _ _ _ e.3 (second (is_of_spec name) _ _ _ _ e.4 (second (is_of_string name) _ _ _ _ e.5 (first (is_of_tree name) _ _ _ _ e.6 x))))))

  -- of a statement that names a format
  first_in : (b : Bool) (c d : Site → State → Effect) (v w : Site → State → ℕ) → b ≡ true → ExpandsIn old new k specials args c v prints → ExpandsIn old new k specials args (if b then c else d) (if b then v else w) prints
  first_in true c d v w e x = x
  first_in false c d v w e x = absurd (cc)

  second_in : (b : Bool) (c d : Site → State → Effect) (v w : Site → State → ℕ) → b ≡ false → ExpandsIn old new k specials args d w prints → ExpandsIn old new k specials args (if b then c else d) (if b then v else w) prints
  second_in true c d v w e x = absurd (cc)
  second_in false c d v w e x = x

  pub by_output : (name : Macro) → IsTrue (is_output name) → ExpandsIn old new k specials args (unit_clause name) (unit_visits name) prints → ExpandsIn old new k specials args (clause name) (visits name) prints
  unfolding clause
  by_output name h x =
      let e = output_of name h in
      second_in (is_of_descr name) _ _ _ _ e.0 (second_in (is_of_choice name) _ _ _ _ e.1 (second_in (is_of_flow name) _ _ _ _ e.2 (first_in (is_of_unit name) _ _ _ _ e.3 x)))

pub ruleset groups = (by_descr, by_choice, by_flow, by_stack, by_control, by_move, by_spec, by_string, by_tree, by_block, by_pattern, by_table, by_power)
