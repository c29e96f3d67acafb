-- What an operation leaves of the statement's number and of the weight.
use Rattle.std.proofs.Common.{◌≡◌, ℕ, zero, suc, List, Option, Some, None, Bool, true, false, refl}
use Rattle.std.specs.Prelude.{ℤ, pos, negsuc, if◌then◌else◌}
use Rattle.unit_io.specs.Tapes.{TapeState}
use Rattle.unit_io.specs.Numbered.{unit_at}
use Rattle.unit_calls.specs.CallsMade.{Made, read}
use Rattle.layout_params.specs.declared.cell.Field.{Field}
use Rattle.sil_model.specs.Access.{field_at, set_field_at, set_whole_at, char_at, set_char_at}
use Rattle.sil_model.specs.CellWords.{kind_at, set_kind_at, word_at, set_word_at}
use Rattle.sil_model.specs.Memory.{Memory}
use Rattle.sil_model.specs.States.{State}
use Rattle.sil_model.specs.declared.table.Table.{Table}
use Rattle.sil_micro.specs.declared.op.Area.{Area}
use Rattle.sil_micro.specs.declared.op.Area.TheVariants as areas
use Rattle.sil_micro.specs.declared.op.Target.{Target}
use Rattle.sil_micro.specs.declared.op.Text.{Text}
use Rattle.sil_micro.specs.declared.op.Text.TheVariants as texts
use Rattle.sil_micro.specs.declared.op.Values.{Values}
use Rattle.sil_micro.specs.declared.op.Op.{Op}
use Rattle.sil_micro.specs.declared.op.Op.TheVariants.{Const, Copy, Arith, Jump, JumpIf, JumpEntry, JumpReturn, LoadField, StoreField, StoreCell, LoadChar, StoreChar, LoadWord, StoreWord, UnitCall, Begin, End as EndBy}
use Rattle.sil_model.specs.Entries.{entered_statement}
use Rattle.sil_micro.specs.Operations.{Effect, On, To, ToReturn, Over, Stuck, act, load, load_char, store, store_state, set_state_word, state_word, store_scratch, set_scratch, scratch_word, load_table, store_tables, load_word, store_word, jump_if, jump_entry, unit_fault, end_by, call_on, call_if, read_answered, read_into, told_call, unit_held}
use Rattle.sil_micro.specs.Pieces.{is_no_begin}
use Rattle.sil_micro.specs.MicroStates.{Setting, Micro, held}
use Rattle.sil_micro.specs.TableWords.{table_word, set_table_word}
use Rattle.sil_micro.specs.UnitCalls.{can_call, chars_read, set_chars_from}
use Rattle.sil_micro.specs.MicroWords.{holds, same_integer, low_byte}

-- a state has the weight and the statement's number of another
abbrev pub Same : Micro → Micro → Type 0
Same u v = (v.spent ≡ u.spent) × (v.state.statement ≡ u.state.statement)

-- so has the state that an effect leaves
abbrev pub Keeps : Micro → Effect → Type 0
Keeps u (On v) = Same u v
Keeps u (To target v) = Same u v
Keeps u (ToReturn entry v) = Same u v
Keeps u (Over end v) = Same u v
Keeps u Stuck = Unit {0}

loads : (o : Option ℤ) (to : ℕ) (u : Micro) → Keeps u (load o to u)
loads None to u = (refl, refl)
loads (Some value) to u = (refl, refl)

loads_char : (o : Option ℕ) (to : ℕ) (u : Micro) → Keeps u (load_char o to u)
loads_char None to u = (refl, refl)
loads_char (Some c) to u = (refl, refl)

stores : (o : Option Memory) (u : Micro) → Keeps u (store o u)
stores None u = (refl, refl)
stores (Some m) u = (refl, refl)

same_steps : (b : Bool) (u : Micro) → Keeps u (store_state (if b then Some u.state else None) u)
same_steps true u = (refl, refl)
same_steps false u = (refl, refl)

sets_state : (at value : ℤ) (u : Micro) → Keeps u (store_state (set_state_word u.state at value) u)
sets_state (pos zero) value u = (refl, refl)
sets_state (pos (suc zero)) value u = (refl, refl)
sets_state (pos (suc (suc zero))) value u = same_steps (same_integer value (pos u.state.steps)) u
sets_state (pos (suc (suc (suc n)))) value u = (refl, refl)
sets_state (negsuc n) value u = (refl, refl)

stores_scratch : (o : Option (ℕ → ℤ)) (u : Micro) → Keeps u (store_scratch o u)
stores_scratch None u = (refl, refl)
stores_scratch (Some words) u = (refl, refl)

loads_table : (o : Option ℤ) (to : ℕ) (u : Micro) → Keeps u (load_table o to u)
loads_table None to u = tt
loads_table (Some value) to u = (refl, refl)

stores_tables : (o : Option (List Table)) (u : Micro) → Keeps u (store_tables o u)
stores_tables None u = tt
stores_tables (Some tables) u = (refl, refl)

loads_word : (area : Area) (at : ℤ) (to : ℕ) (u : Micro) → Keeps u (load_word area at to u)
loads_word areas.State at to u = loads (state_word u.state at) to u
loads_word areas.Scratch at to u = loads (scratch_word u.scratch at) to u
loads_word areas.Tables at to u = loads_table (table_word u.state.tables at) to u
loads_word areas.Kind at to u = loads (kind_at u.state.memory at) to u
loads_word areas.Bytes at to u = loads (word_at u.state.memory at) to u

stores_word : (area : Area) (at value : ℤ) (u : Micro) → Keeps u (store_word area at value u)
stores_word areas.State at value u = sets_state at value u
stores_word areas.Scratch at value u = stores_scratch (set_scratch u.scratch at value) u
stores_word areas.Tables at value u = stores_tables (set_table_word u.state.tables at value) u
stores_word areas.Kind at value u = stores (set_kind_at u.state.memory at value) u
stores_word areas.Bytes at value u = stores (set_word_at u.state.memory at value) u

jumps_if : (b : Bool) (to : Target) (u : Micro) → Keeps u (jump_if b to u)
jumps_if true to u = (refl, refl)
jumps_if false to u = (refl, refl)

jumps_entry : (o : Option ℕ) (u : Micro) → Keeps u (jump_entry o u)
jumps_entry None u = (refl, refl)
jumps_entry (Some k) u = (refl, refl)

faults : (o : Option ℕ) (u : Micro) → Keeps u (unit_fault o u)
faults None u = tt
faults (Some unit) u = (refl, refl)

ends : (by : ℤ) (u : Micro) → Keeps u (end_by by u)
ends (pos zero) u = (refl, refl)
ends (pos (suc zero)) u = (refl, refl)
ends (pos (suc (suc zero))) u = (refl, refl)
ends (pos (suc (suc (suc zero)))) u = (refl, refl)
ends (pos (suc (suc (suc (suc zero))))) u = (refl, refl)
ends (pos (suc (suc (suc (suc (suc zero)))))) u = faults u.failed u
ends (pos (suc (suc (suc (suc (suc (suc n))))))) u = tt
ends (negsuc n) u = tt

reads : (o : Option Memory) (unit to : ℕ) (u : Micro) (made : Made) → Keeps u (read_answered o unit to u made)
reads None unit to u made = tt
reads (Some m) unit to u made = (refl, refl)

reads_into : (text : Text) (unit to : ℕ) (u : Micro) (t : TapeState) → Keeps u (read_into text unit to u t)
reads_into texts.None unit to u t = tt
reads_into (texts.Format i) unit to u t = tt
reads_into (texts.Chars at len) unit to u t = reads (set_chars_from u.state.memory (held u.registers at) (chars_read u at len t)) unit to u (read t)

calls_told : (g : Setting) (call : ℕ) (text : Text) (values : Values) (unit to : ℕ) (u : Micro) (t : TapeState) → Keeps u (told_call g call text values unit to u t)
calls_told g zero text values unit to u t = tt
calls_told g (suc zero) text values unit to u t = tt
calls_told g (suc (suc zero)) text values unit to u t = reads_into text unit to u t
calls_told g (suc (suc (suc zero))) text values unit to u t = (refl, refl)
calls_told g (suc (suc (suc (suc zero)))) text values unit to u t = (refl, refl)
calls_told g (suc (suc (suc (suc (suc zero))))) text values unit to u t = (refl, refl)
calls_told g (suc (suc (suc (suc (suc (suc zero)))))) text values unit to u t = (refl, refl)
calls_told g (suc (suc (suc (suc (suc (suc (suc n))))))) text values unit to u t = tt

calls_on : (o : Option (Option TapeState)) (to : ℕ) (u : Micro) (call : TapeState → Effect) → ((t : TapeState) → Keeps u (call t)) → Keeps u (call_on o to u call)
calls_on None to u call h = (refl, refl)
calls_on (Some None) to u call h = (refl, refl)
calls_on (Some (Some t)) to u call h = h t

calls_if : (b : Bool) (unit to : ℕ) (u : Micro) (call : TapeState → Effect) → ((t : TapeState) → Keeps u (call t)) → Keeps u (call_if b unit to u call)
calls_if false unit to u call h = tt
calls_if true unit to u call h = calls_on (unit_at u.state.tapes unit) to u call h

-- every operation but a Begin keeps both
pub keeps : (g : Setting) (op : Op) (u : Micro) → is_no_begin op ≡ true → Keeps u (act g op u)
keeps g (Const to value) u h = (refl, refl)
keeps g (Copy to from) u h = (refl, refl)
keeps g (Arith kind to left right) u h = (refl, refl)
keeps g (Jump to) u h = (refl, refl)
keeps g (JumpIf test left right to) u h = jumps_if (holds test (held u.registers left) (held u.registers right)) to u
keeps g (JumpEntry entry) u h = jumps_entry (entered_statement u.state.memory.limits.cell_size g.statements (held u.registers entry)) u
keeps g (JumpReturn entry) u h = (refl, refl)
keeps g (LoadField field to at) u h = loads (field_at u.state.memory (held u.registers at) field) to u
keeps g (StoreField field at from) u h = stores (set_field_at u.state.memory (held u.registers at) field (held u.registers from)) u
keeps g (StoreCell at a f v) u h = stores (set_whole_at u.state.memory (held u.registers at) (held u.registers a) (held u.registers f) (held u.registers v)) u
keeps g (LoadChar to at) u h = loads_char (char_at u.state.memory (held u.registers at)) to u
keeps g (StoreChar at from) u h = stores (set_char_at u.state.memory (held u.registers at) (low_byte (held u.registers from))) u
keeps g (LoadWord area to at) u h = loads_word area (held u.registers at) to u
keeps g (StoreWord area at from) u h = stores_word area (held u.registers at) (held u.registers from) u
keeps g (UnitCall call unit to text values) u h =
    calls_if (can_call g u call text values) (unit_held u unit) to u (told_call g call text values (unit_held u unit) to u) (calls_told g call text values (unit_held u unit) to u)
keeps g (Begin k) u h = absurd (cc)
keeps g (EndBy by) u h = ends (held u.registers by) u

-- a Begin is none of these
pub is_begin : (op : Op) → is_no_begin op ≡ false → (k : ℕ) × (op ≡ Begin k)
is_begin (Begin k) h = (k, refl)
is_begin (Const to value) h = absurd (cc)
is_begin (Copy to from) h = absurd (cc)
is_begin (Arith kind to left right) h = absurd (cc)
is_begin (Jump to) h = absurd (cc)
is_begin (JumpIf test left right to) h = absurd (cc)
is_begin (JumpEntry entry) h = absurd (cc)
is_begin (JumpReturn entry) h = absurd (cc)
is_begin (LoadField field to at) h = absurd (cc)
is_begin (StoreField field at from) h = absurd (cc)
is_begin (StoreCell at a f v) h = absurd (cc)
is_begin (LoadChar to at) h = absurd (cc)
is_begin (StoreChar at from) h = absurd (cc)
is_begin (LoadWord area to at) h = absurd (cc)
is_begin (StoreWord area at from) h = absurd (cc)
is_begin (UnitCall call unit to text values) h = absurd (cc)
is_begin (EndBy by) h = absurd (cc)
