-- The code that a program is expanded into.
use Rattle.std.specs.Prelude.{◌≡◌, ℕ, ◌+◌, ◌≤◌, List, length, All, Bool, true, false, ◌||◌, Some, None, slice_get, IsTrue}
use Rattle.sil_base.specs.declared.limits.TheConstants.{MAX_STEPS}
use Rattle.unit_io.specs.Tapes.{Tapes}
use Rattle.layout_params.specs.Parameters.{Parameters}
use Rattle.sil_macros.specs.declared.names.Macro.{Macro}
use Rattle.sil_model.specs.declared.program.Arg.{Arg}
use Rattle.sil_model.specs.declared.program.Program.{Program}
use Rattle.sil_model.specs.declared.program.Specials.{Specials}
use Rattle.sil_model.specs.declared.program.Statement.{Statement}
use Rattle.flow_clauses.specs.CallClauses.{is_rcall}
use Rattle.sil_runs.specs.Costs.{visits}
use Rattle.sil_runs.specs.Machine.{machine}
use Rattle.sil_model.specs.Start.{first_state}
use Rattle.sil_model.specs.Prints.{writes_records, IsSilent}
use Rattle.sil_runs.specs.Table.{clause}
use Rattle.sil_micro.specs.declared.op.Op.{Op}
use Rattle.sil_micro.specs.Codes.{MicroCode, IsWhole, entry_of, return_of, setting_of}
use Rattle.sil_micro.specs.Expands.{IsPiece}
use Rattle.sil_micro.specs.Forms.{all_ops}
use Rattle.sil_micro.specs.Laws.{StandsAt}
use Rattle.sil_micro.specs.Pieces.{is_quiet}
use Rattle.sil_micro.specs.MicroRuns.{RunsTo}
use Rattle.exp_calls.specs.CallHalves.{DoesAnswer, DoesReturn, ExpandsCall, ExpandsReturn}
use Rattle.exp_calls.specs.Group.{is_return}
use Rattle.exp_choices.specs.Group.{is_choice}
use Rattle.exp_control.specs.Group.{is_control}
use Rattle.exp_descr.specs.Group.{is_descr}
use Rattle.exp_flow.specs.Group.{is_flow}
use Rattle.exp_stack.specs.Group.{is_stack}
use Rattle.exp_units.specs.Group.{is_move, is_output}
use Rattle.string_runtime.specs.Group.{is_string}
use Rattle.exp_spec.specs.Group.{is_spec}
use Rattle.exp_powers.specs.Group.{is_power}
use Rattle.exp_tables.specs.Group.{is_table}
use Rattle.pattern_runtime.specs.Group.{is_pattern}
use Rattle.exp_blocks.specs.Group.{is_block}
use Rattle.exp_trees.specs.Group.{is_tree}
use Rattle.exp_units.specs.InFormats.{DoesIn, ExpandsIn}

-- the macros whose statements make their steps by themselves and name no format, those that may name one, and all that are expanded so far
abbrev pub is_alone : Macro → Bool
is_alone name = is_flow name || is_choice name || is_stack name || is_control name || is_move name || is_spec name || is_string name || is_tree name || is_block name || is_pattern name || is_table name || is_power name || is_descr name

abbrev pub is_here : Macro → Bool
is_here name = is_output name || is_alone name

abbrev pub is_expanded : Macro → Bool
is_expanded name = is_rcall name || is_return name || is_here name

abbrev pub AreExpanded : Program → Type 0
AreExpanded program = All (λ statement. IsTrue (is_expanded statement.name)) program.statements

-- what the expansion of a statement is to do, by whether it calls, and whether it returns
abbrev pub IsExpandedTo : Bool → Bool → MicroCode → MicroCode → ℕ → Specials → Macro → List Arg → Type 0
IsExpandedTo true returns old new k specials name args = ExpandsCall old new k specials args
IsExpandedTo false true old new k specials name args = ExpandsReturn old new k specials args
IsExpandedTo false false old new k specials name args = ExpandsIn old new k specials args (clause name) (visits name) (writes_records name)

-- the piece of a call goes on with its returns from the return part that the code has of it
pub record Answers (c : MicroCode) (k base : ℕ) (piece : List Op) (args : List Arg) : Type 0 where
  pub part : ℕ
  pub place : return_of c k ≡ Some (base + part)
  pub does : DoesAnswer k piece part args

-- no other statement has a return part
abbrev pub HasReturns : Bool → MicroCode → ℕ → ℕ → List Op → List Arg → Type 0
HasReturns true c k base piece args = Answers c k base piece args
HasReturns false c k base piece args = return_of c k ≡ None

-- with the code's formats the piece makes the statement's step; that of a return jumps to the return part of its call
abbrev pub DoesStep : Bool → List (List ℕ) → ℕ → List Op → Specials → Macro → List Arg → Type 0
DoesStep true formats k piece specials name args = DoesReturn k piece specials args
DoesStep false formats k piece specials name args = DoesIn formats k piece specials args (clause name) (visits name)

-- the piece of a statement stands at its entry, the next statement follows it, and it makes the statement's step within its cost, or the part of the step that is its own
pub record HasPiece (c : MicroCode) (specials : Specials) (k : ℕ) (statement : Statement) : Type 0 where
  pub base : ℕ
  pub piece : List Op
  pub entry : entry_of c k ≡ Some base
  pub stands : StandsAt c base (k + 1) piece
  pub is_piece : IsPiece k (length c.entries) (length c.formats) (writes_records statement.name) piece
  pub does : DoesStep (is_return statement.name) c.formats k piece specials statement.name statement.args
  pub returns : HasReturns (is_rcall statement.name) c k base piece statement.args

-- a whole code with the program's data and a piece for each statement, which writes no record where no statement does
pub record IsExpansion (program : Program) (c : MicroCode) : Type 0 where
  pub whole : IsWhole c
  pub statements : length c.entries ≡ length program.statements
  pub static_cells : c.static_cells ≡ length program.cells
  pub formats : c.formats ≡ program.formats
  pub quiet : IsSilent program → IsTrue (all_ops is_quiet c.ops)
  pub each : (k : ℕ) (statement : Statement) → slice_get program.statements k ≡ Some statement → HasPiece c program.specials k statement

-- for all tapes and steps the code's run comes to the end, the tapes and the statements met of the program's run
abbrev pub RunsAsTheMachine : Program → Parameters → MicroCode → Type 0
RunsAsTheMachine program parameters c =
    (tapes : Tapes) (n : ℕ) → n ≤ MAX_STEPS → (fuel : ℕ) × RunsTo (setting_of c parameters.settings n) c fuel (first_state program parameters.settings tapes) (machine program parameters tapes n)
