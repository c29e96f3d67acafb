-- What the operations do: a clause each.
use Rattle.std.specs.Prelude.{ℕ, zero, suc, ◌+◌, ◌-◌, ◌*◌, List, length, Option, Some, None, Bool, true, false, ℤ, pos, negsuc, nat_eq, nat_lt, if◌then◌else◌}
use Rattle.sil_base.specs.Bytes.{number}
use Rattle.sil_base.specs.declared.places.TheConstants.{FIRST_CELL}
use Rattle.unit_io.specs.Tapes.{TapeState, rewound, backspaced, ended, with_tape}
use Rattle.unit_io.specs.Numbered.{unit_at}
use Rattle.unit_calls.specs.CallsMade.{Made, absent, moved, print_on, read, unit_number}
use Rattle.layout_params.specs.Areas.{hidden_cells}
use Rattle.sil_model.specs.declared.end.End.{End}
use Rattle.sil_model.specs.declared.end.End.TheVariants as ends
use Rattle.sil_model.specs.declared.table.Table.{Table}
use Rattle.sil_model.specs.Access.{field_at, set_field_at, set_whole_at, char_at, set_char_at}
use Rattle.sil_model.specs.CellWords.{kind_at, set_kind_at, word_at, set_word_at}
use Rattle.sil_model.specs.Entries.{entered_statement}
use Rattle.sil_model.specs.Memory.{Memory}
use Rattle.sil_model.specs.States.{State}
use Rattle.sil_micro.specs.declared.op.Fixed.{Fixed}
use Rattle.sil_micro.specs.declared.op.Fixed.TheVariants.{Number, Descr, Obsiz, Sttl, Ttl, Date, Hidden, Dynamic, Stack, Cells}
use Rattle.sil_micro.specs.declared.op.Area.{Area}
use Rattle.sil_micro.specs.declared.op.Area.TheVariants as areas
use Rattle.sil_micro.specs.declared.op.Target.{Target}
use Rattle.sil_micro.specs.declared.op.Target.TheVariants as targets
use Rattle.sil_micro.specs.declared.op.Op.{Op}
use Rattle.sil_micro.specs.declared.op.Text.{Text}
use Rattle.sil_micro.specs.declared.op.Text.TheVariants as texts
use Rattle.sil_micro.specs.declared.op.Values.{Values}
use Rattle.sil_micro.specs.declared.op.Op.TheVariants.{Const, Copy, Arith, Jump, JumpIf, JumpEntry, JumpReturn, LoadField, StoreField, StoreCell, LoadChar, StoreChar, LoadWord, StoreWord, UnitCall, Begin, End as EndBy}
use Rattle.sil_micro.specs.MicroStates.{Setting, Micro, held, put}
use Rattle.sil_micro.specs.MicroWords.{computed, holds, same_integer, low_byte, unsigned}
use Rattle.sil_micro.specs.TableWords.{table_word, set_table_word}
use Rattle.sil_micro.specs.UnitCalls.{can_call, chars_read, set_chars_from, text_of, values_of}

-- what an operation does: it goes on to the next; jumps; goes to the return part of the call whose entry this is; ends the run, with no end where it calls a unit that doesn't tell its tape; or is stuck
pub data Effect : Type 0 where
  On : Micro → Effect
  To : Target → Micro → Effect
  ToReturn : ℤ → Micro → Effect
  Over : Option End → Micro → Effect
  Stuck : Effect

abbrev pub ends_by : End → Micro → Effect
ends_by end u = Over (Some end) u

-- undefined at the statement that was begun last
abbrev pub undefined : Micro → Effect
undefined u = ends_by (ends.Undefined u.state.statement) u

abbrev pub set_register : ℕ → ℤ → Micro → Effect
set_register to value u = On (record u { registers = put to value u.registers })

-- what an operation reads, where it is found
abbrev pub load : Option ℤ → ℕ → Micro → Effect
load None to u = undefined u
load (Some value) to u = set_register to value u

abbrev pub load_char : Option ℕ → ℕ → Micro → Effect
load_char None to u = undefined u
load_char (Some c) to u = set_register to (pos c) u

-- what an operation leaves, where it finds its place and what it writes fits there
abbrev pub store_state : Option State → Micro → Effect
store_state None u = undefined u
store_state (Some s) u = On (record u { state = s })

abbrev pub store : Option Memory → Micro → Effect
store None u = undefined u
store (Some m) u = On (record u { state = record u.state { memory = m } })

-- ---- numbers that rest on the parameters and the program

-- the address of the first cell after so many
abbrev pub cell_address : Setting → ℕ → ℤ
cell_address g cells = pos (FIRST_CELL + cells * g.settings.sizes.descr)

abbrev pub fixed : Setting → State → Fixed → ℤ
fixed g s (Number n) = n
fixed g s Descr = pos s.memory.limits.cell_size
fixed g s Obsiz = pos g.settings.bucket_count
fixed g s Sttl = pos g.settings.string_title_flag
fixed g s Ttl = pos g.settings.title_flag
fixed g s Date = pos (number g.settings.date)
fixed g s Hidden = cell_address g g.static_cells
fixed g s Dynamic = cell_address g (g.static_cells + hidden_cells g.settings)
fixed g s Stack = cell_address g (g.static_cells + hidden_cells g.settings + g.settings.dynamic_size)
fixed g s Cells = pos (length s.memory.cells)

-- ---- words of the areas

-- the top of the stack, the one below, and the steps taken
abbrev pub state_word : State → ℤ → Option ℤ
state_word s (pos zero) = Some s.current
state_word s (pos (suc zero)) = Some s.previous
state_word s (pos (suc (suc zero))) = Some (pos s.steps)
state_word s _ = None

-- the steps taken stay
abbrev pub set_state_word : State → ℤ → ℤ → Option State
set_state_word s (pos zero) value = Some (record s { current = value })
set_state_word s (pos (suc zero)) value = Some (record s { previous = value })
set_state_word s (pos (suc (suc zero))) value = if same_integer value (pos s.steps) then Some s else None
set_state_word s _ value = None

-- the numbers of the scratch words are below this
abbrev pub scratch_words : ℕ
scratch_words = 8190

abbrev pub scratch_word : (ℕ → ℤ) → ℤ → Option ℤ
scratch_word words (pos i) = if nat_lt i scratch_words then Some (words i) else None
scratch_word words (negsuc i) = None

-- the words with another one in the place of one
unfoldable pub with_word : (ℕ → ℤ) → ℕ → ℤ → ℕ → ℤ
with_word words i value j = if nat_eq j i then value else words j

abbrev pub set_scratch : (ℕ → ℤ) → ℤ → ℤ → Option (ℕ → ℤ)
set_scratch words (pos i) value = if nat_lt i scratch_words then Some (with_word words i value) else None
set_scratch words (negsuc i) value = None

abbrev pub store_scratch : Option (ℕ → ℤ) → Micro → Effect
store_scratch None u = undefined u
store_scratch (Some words) u = On (record u { scratch = words })

-- the emission isn't told the number of tables, so what lies outside them is stuck
abbrev pub load_table : Option ℤ → ℕ → Micro → Effect
load_table None to u = Stuck
load_table (Some value) to u = set_register to value u

abbrev pub store_tables : Option (List Table) → Micro → Effect
store_tables None u = Stuck
store_tables (Some tables) u = On (record u { state = record u.state { tables = tables } })

abbrev pub load_word : Area → ℤ → ℕ → Micro → Effect
load_word areas.State at to u = load (state_word u.state at) to u
load_word areas.Scratch at to u = load (scratch_word u.scratch at) to u
load_word areas.Tables at to u = load_table (table_word u.state.tables at) to u
load_word areas.Kind at to u = load (kind_at u.state.memory at) to u
load_word areas.Bytes at to u = load (word_at u.state.memory at) to u

abbrev pub store_word : Area → ℤ → ℤ → Micro → Effect
store_word areas.State at value u = store_state (set_state_word u.state at value) u
store_word areas.Scratch at value u = store_scratch (set_scratch u.scratch at value) u
store_word areas.Tables at value u = store_tables (set_table_word u.state.tables at value) u
store_word areas.Kind at value u = store (set_kind_at u.state.memory at value) u
store_word areas.Bytes at value u = store (set_word_at u.state.memory at value) u

-- ---- jumps, ends and calls

abbrev pub jump_if : Bool → Target → Micro → Effect
jump_if true to u = To to u
jump_if false to u = On u

abbrev pub jump_entry : Option ℕ → Micro → Effect
jump_entry None u = undefined u
jump_entry (Some k) u = To (targets.Statement k) u

-- the statement is the one begun last, also where no step is left; else the step counts, and the weights are counted anew
abbrev pub begin_if : Bool → ℕ → Micro → Effect
begin_if false k u = ends_by ends.Budget (record u { state = record u.state { statement = k } })
begin_if true k u = On (record u { state = record u.state { statement = k; steps = u.state.steps + 1 }; spent = 28 })

-- the end at a statement where the last unit call failed
abbrev pub unit_fault : Option ℕ → Micro → Effect
unit_fault None u = Stuck
unit_fault (Some unit) u = ends_by (ends.UnitFault u.state.statement unit) u

abbrev pub end_by : ℤ → Micro → Effect
end_by (pos zero) u = ends_by (ends.Exit 0) u
end_by (pos (suc zero)) u = ends_by (ends.Exit 1) u
end_by (pos (suc (suc zero))) u = ends_by (ends.Trap u.state.statement) u
end_by (pos (suc (suc (suc zero)))) u = undefined u
end_by (pos (suc (suc (suc (suc zero))))) u = ends_by ends.Budget u
end_by (pos (suc (suc (suc (suc (suc zero)))))) u = unit_fault u.failed u
end_by _ u = Stuck

-- the unit of a call, where it failed
abbrev pub failed_unit : Bool → ℕ → Option ℕ
failed_unit false unit = None
failed_unit true unit = Some unit

-- a call on a unit was made, and its answer goes to a register
abbrev pub answered : ℕ → ℕ → Micro → Made → Effect
answered unit to u made = On (record u { state = record u.state { tapes = with_tape u.state.tapes unit made.tape }; registers = put to (pos made.answer) u.registers; failed = failed_unit made.failed unit })

-- a read was made, which leaves this memory: there is one, since the call can be made only where there are characters
abbrev pub read_answered : Option Memory → ℕ → ℕ → Micro → Made → Effect
read_answered None unit to u made = Stuck
read_answered (Some m) unit to u made = answered unit to (record u { state = record u.state { memory = m } }) made

-- a read goes into the characters of its text
abbrev pub read_into : Text → ℕ → ℕ → Micro → TapeState → Effect
read_into (texts.Chars at len) unit to u t = read_answered (set_chars_from u.state.memory (held u.registers at) (chars_read u at len t)) unit to u (read t)
read_into _ unit to u t = Stuck

-- a call on a unit that tells its tape
abbrev pub told_call : Setting → ℕ → Text → Values → ℕ → ℕ → Micro → TapeState → Effect
told_call g (suc (suc zero)) text values unit to u t = read_into text unit to u t
told_call g (suc (suc (suc zero))) text values unit to u t = answered unit to u (print_on (text_of g u text) (values_of u values) t)
told_call g (suc (suc (suc (suc zero)))) text values unit to u t = answered unit to u (moved rewound t)
told_call g (suc (suc (suc (suc (suc zero))))) text values unit to u t = answered unit to u (moved backspaced t)
told_call g (suc (suc (suc (suc (suc (suc zero)))))) text values unit to u t = answered unit to u (moved ended t)
told_call g _ text values unit to u t = Stuck

-- a call on what has the unit's number: an absent unit gives its answer, and no call on it fails
abbrev pub call_on : Option (Option TapeState) → ℕ → Micro → (TapeState → Effect) → Effect
call_on None to u call = On (record u { registers = put to (pos absent) u.registers; failed = None })
call_on (Some None) to u call = Over None u
call_on (Some (Some t)) to u call = call t

abbrev pub call_if : Bool → ℕ → ℕ → Micro → (TapeState → Effect) → Effect
call_if false unit to u call = Stuck
call_if true unit to u call = call_on (unit_at u.state.tapes unit) to u call

-- the number of the unit that a register says
abbrev pub unit_held : Micro → ℕ → ℕ
unit_held u unit = unit_number (unsigned (held u.registers unit))

-- ---- all operations

abbrev pub act : Setting → Op → Micro → Effect
act g (Const to value) u = set_register to (fixed g u.state value) u
act g (Copy to from) u = set_register to (held u.registers from) u
act g (Arith kind to left right) u = set_register to (computed kind (held u.registers left) (held u.registers right)) u
act g (Jump to) u = To to u
act g (JumpIf test left right to) u = jump_if (holds test (held u.registers left) (held u.registers right)) to u
act g (JumpEntry entry) u = jump_entry (entered_statement u.state.memory.limits.cell_size g.statements (held u.registers entry)) u
act g (JumpReturn entry) u = ToReturn (held u.registers entry) u
act g (LoadField field to at) u = load (field_at u.state.memory (held u.registers at) field) to u
act g (StoreField field at from) u = store (set_field_at u.state.memory (held u.registers at) field (held u.registers from)) u
act g (StoreCell at a f v) u = store (set_whole_at u.state.memory (held u.registers at) (held u.registers a) (held u.registers f) (held u.registers v)) u
act g (LoadChar to at) u = load_char (char_at u.state.memory (held u.registers at)) to u
act g (StoreChar at from) u = store (set_char_at u.state.memory (held u.registers at) (low_byte (held u.registers from))) u
act g (LoadWord area to at) u = load_word area (held u.registers at) to u
act g (StoreWord area at from) u = store_word area (held u.registers at) (held u.registers from) u
act g (UnitCall call unit to text values) u = call_if (can_call g u call text values) (unit_held u unit) to u (told_call g call text values (unit_held u unit) to u)
act g (Begin k) u = begin_if (nat_lt u.state.steps g.bound) k u
act g (EndBy by) u = end_by (held u.registers by) u

-- the most instructions that an operation becomes
abbrev pub weight : Op → ℕ
weight (Const to value) = 8
weight (Copy to from) = 8
weight (Arith kind to left right) = 8
weight (Jump to) = 8
weight (JumpIf test left right to) = 8
weight _ = 28

-- one operation, with its weight counted
abbrev pub perform : Setting → Op → Micro → Effect
perform g op u = act g op (record u { spent = u.spent + weight op })
