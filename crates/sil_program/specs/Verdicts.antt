-- What a check answers.
use Rattle.std.specs.Prelude.{◌≡◌, ℕ, List, [], ◌∷◌, Option, Some, None, Bool, true, false, ◌||◌}
use Rattle.std.specs.List.{list_all}
use Rattle.std.specs.declared.result.Result.{Result}
use Rattle.std.specs.declared.result.Result.TheVariants.{Ok, Err}
use Rattle.layout_params.specs.Parameters.{Parameters}
use Rattle.sil_base.specs.declared.line.Fault.{Fault}
use Rattle.sil_macros.specs.declared.names.Macro.{Macro}
use Rattle.sil_macros.specs.MacroRows.{row}
use Rattle.sil_cards.specs.CardParts.{CardParts}
use Rattle.sil_symbols.specs.declared.stmt.Stmt.{Stmt}
use Rattle.sil_symbols.specs.SymbolRules.{faults_of}
use Rattle.sil_shapes.specs.ShapeRules.{statement_faults}
use Rattle.data_asm.specs.DataFaults.{data_faults}
use Rattle.sil_base.specs.declared.fault_stop.FaultStop.{FaultStop}
use Rattle.syntax_tables.specs.declared.saying.Said.{Said}
use Rattle.syntax_tables.specs.TableFiles.{written_of}
use Rattle.sil_model.specs.declared.program.Program.{Program}
use Rattle.sil_program.specs.Built.{is_built}
use Rattle.sil_arguments.specs.declared.stop.ProgramStop.{ProgramStop}
use Rattle.sil_arguments.specs.declared.stop.ProgramStop.TheVariants as stop
use Rattle.sil_arguments.specs.ProgramStops.{stop_below}
use Rattle.sil_program.specs.Specials.{special_faults}
use Rattle.sil_program.specs.Statements.{statements_of}
use Rattle.sil_program.specs.TableFaults.{table_faults}
use Rattle.sil_program.specs.Programs.{program_of}

-- the macros of the assembly, and those that are installed so far
abbrev pub is_built_macro : Macro → Bool
is_built_macro name = (row name).assembly || is_built name

abbrev pub is_built_statement : Stmt → Bool
is_built_statement s = is_built_macro s.name

-- a source of such macros alone
abbrev pub is_built_source : List Stmt → Bool
is_built_source source = list_all is_built_statement source

-- the faults that there are; without one, the answer that follows
abbrev pub unless_faults : List Fault → Result Program ProgramStop → Result Program ProgramStop
unless_faults [] next = next
unless_faults (fault ∷ faults) next = Err (stop.Faults (fault ∷ faults))

-- the answer that follows where everything so far is built
abbrev pub if_built : Bool → Result Program ProgramStop → Result Program ProgramStop
if_built true next = next
if_built false next = Err stop.NotBuilt

-- the program, where it is made
abbrev pub made : Option Program → Result Program ProgramStop
made (Some program) = Ok program
made None = Err stop.NotBuilt

-- what is answered for the lines of a tables file; a fault of their form hides all others of tables
abbrev pub with_lines : Result (List Said) FaultStop → (List Said → Result Program ProgramStop) → Result Program ProgramStop
with_lines (Ok lines) go = go lines
with_lines (Err stop) go = Err (stop_below stop)

-- what is answered where there are no faults: the program, where it is built
abbrev pub verdict_built : Parameters → List Stmt → List Said → Result Program ProgramStop
verdict_built p source lines =
    if_built (is_built_source source) (made (program_of p source lines))

-- what is answered for a source and the lines of a tables file, where all before them is in order: faults of tables, then of special symbols
abbrev pub verdict_with : Parameters → List Stmt → List Said → Result Program ProgramStop
verdict_with p source lines =
    unless_faults (table_faults p source lines)
    (unless_faults (special_faults p source)
    (verdict_built p source lines))

-- what is answered for a source and a tables file, without want of memory: faults of symbols, then of statements, then of data, then of tables
abbrev pub verdict_of : Parameters → List Stmt → List ℕ → Result Program ProgramStop
verdict_of p source tables =
    unless_faults (faults_of p source)
    (unless_faults (statement_faults p source)
    (unless_faults (data_faults p source)
    (with_lines (written_of tables) (verdict_with p source))))

-- the same, for the cards of a source
abbrev pub verdict : List CardParts → List ℕ → Parameters → Result Program ProgramStop
verdict cards tables p = verdict_of p (statements_of cards) tables

-- a stop but want of memory is what the verdict says
abbrev pub IsStopFor : Result Program ProgramStop → ProgramStop → Type 0
IsStopFor answer (stop.Faults faults) = answer ≡ Err (stop.Faults faults)
IsStopFor answer stop.NotBuilt = answer ≡ Err stop.NotBuilt
IsStopFor answer stop.Memory = Unit {0}

-- NotBuilt is answered only for a source that isn't built
abbrev pub IsUnbuilt : List Stmt → ProgramStop → Type 0
IsUnbuilt source (stop.Faults faults) = Unit {0}
IsUnbuilt source stop.NotBuilt = is_built_source source ≡ false
IsUnbuilt source stop.Memory = Unit {0}
