-- The tables of a program, and what their lines may not name. The value of an expression is given.
use Rattle.std.specs.Prelude.{ℕ, ◌+◌, Bool, false, ◌==◌, List, [], ◌∷◌, map, take, Option, Some, None, is_none, option_and_then, ℤ, if◌then◌else◌}
use Rattle.std.specs.List.{list_any, range_with_len}
use Rattle.sil_base.specs.Names.{is_word}
use Rattle.sil_base.specs.declared.line.Fault.{Fault}
use Rattle.sil_operands.specs.declared.expr.Term.{Term}
use Rattle.sil_model.specs.declared.table.Action.{Action}
use Rattle.sil_model.specs.declared.table.Action.TheVariants as action
use Rattle.sil_model.specs.declared.table.Entry.{Entry}
use Rattle.sil_model.specs.declared.table.Table.{Table}
use Rattle.syntax_tables.specs.Sayings.{class_has}
use Rattle.syntax_tables.specs.TableFiles.{names_in, table_named, table_fault}
use Rattle.syntax_tables.specs.declared.rule.Move.{Move}
use Rattle.syntax_tables.specs.declared.rule.Move.TheVariants as move
use Rattle.syntax_tables.specs.declared.rule.Rule.{Rule}
use Rattle.syntax_tables.specs.declared.saying.Saying.{Saying}
use Rattle.syntax_tables.specs.declared.saying.Saying.TheVariants.{Begin, For, Else, End}
use Rattle.syntax_tables.specs.declared.saying.Said.{Said}

abbrev pub Values : Type 0
Values = List Term → Option ℤ

-- ---- entries

abbrev pub rule_or : ℕ → Saying → Option Rule → Option Rule
rule_or c (For class rule) later = if class_has c class then Some rule else later
rule_or c (Else rule) later = Some rule
rule_or c (Begin name) later = None
rule_or c (End name) later = None

-- the rule of a character, by the lines after the BEGIN of a table: that of the first FOR whose class has it, else that of ELSE
abbrev pub rule_at : ℕ → List Said → Option Rule
rule_at c [] = None
rule_at c (said ∷ lines) = rule_or c said.saying (rule_at c lines)

-- a name of no table stands for ERROR, but is a fault
abbrev pub goto_of : Option ℕ → Action
goto_of None = action.Error
goto_of (Some next) = action.Goto next

abbrev pub action_of : List (List ℕ) → Move → Action
action_of names move.Contin = action.Contin
action_of names (move.Goto name) = goto_of (table_named names name)
action_of names move.Stop = action.Stop
action_of names move.Stopsh = action.Stopsh
action_of names move.Error = action.Error

-- the entry of a rule; a table has one for each character
abbrev pub entry_of : Values → List (List ℕ) → Option Rule → Entry
entry_of value names None = record { action = action.Error; put = None }
entry_of value names (Some rule) = record { action = action_of names rule.action; put = option_and_then value rule.put }

-- the entry of a character in the table whose BEGIN stands before these lines
abbrev pub entry_at : Values → List (List ℕ) → List Said → ℕ → Entry
entry_at value names lines c = entry_of value names (rule_at c lines)

unfoldable pub table_of : Values → List (List ℕ) → List Said → Table
table_of value names lines = record { entries = map (entry_at value names lines) (range_with_len 0 256) }

-- ---- tables

abbrev pub onto_tables : Saying → Table → List Table → List Table
onto_tables (Begin name) table tables = table ∷ tables
onto_tables saying table tables = tables

abbrev pub tables_in : Values → List (List ℕ) → List Said → List Table
tables_in value names [] = []
tables_in value names (said ∷ lines) = onto_tables said.saying (table_of value names lines) (tables_in value names lines)

-- the tables that lines write, in order
unfoldable pub tables_of : Values → List Said → List Table
tables_of value lines = tables_in value (names_in lines) lines

-- ---- faults

-- a GOTO names no table
abbrev pub goes_astray : List (List ℕ) → Move → Bool
goes_astray names (move.Goto name) = is_none (table_named names name)
goes_astray names other = false

-- an expression has no value
abbrev pub lacks_value : Values → Option (List Term) → Bool
lacks_value value None = false
lacks_value value (Some terms) = is_none (value terms)

abbrev pub broken_by_rule : Values → List (List ℕ) → Rule → Option ℕ
broken_by_rule value names rule =
    if goes_astray names rule.action then Some 5
    else if lacks_value value rule.put then Some 6
    else None

-- a BEGIN after so many tables: an earlier one has its name, or it is one too many
abbrev pub broken_by_name : List (List ℕ) → ℕ → List ℕ → Option ℕ
broken_by_name names count name =
    if list_any (is_word name) (take count names) then Some 3
    else if count == 256 then Some 4
    else None

-- the least rule that a line breaks, after so many tables
abbrev pub broken_by : Values → List (List ℕ) → ℕ → Saying → Option ℕ
broken_by value names count (Begin name) = broken_by_name names count name
broken_by value names count (For class rule) = broken_by_rule value names rule
broken_by value names count (Else rule) = broken_by_rule value names rule
broken_by value names count (End name) = None

abbrev pub with_fault : ℕ → Option ℕ → List Fault → List Fault
with_fault line None faults = faults
with_fault line (Some rule) faults = table_fault line rule ∷ faults

abbrev pub count_after : ℕ → Saying → ℕ
count_after count (Begin name) = count + 1
count_after count saying = count

abbrev pub faults_from : Values → List (List ℕ) → ℕ → List Said → List Fault
faults_from value names count [] = []
faults_from value names count (said ∷ lines) =
    with_fault said.line (broken_by value names count said.saying) (faults_from value names (count_after count said.saying) lines)

-- each line that breaks a rule, in order
unfoldable pub faults_of : Values → List Said → List Fault
faults_of value lines = faults_from value (names_in lines) 0 lines
