-- What an operation does where its piece stands at a place: the same, but that it jumps to where the piece is.
use Rattle.std.proofs.Common.{◌≡◌, ℕ, zero, suc, ◌+◌, ◌<◌, ◌≤◌, List, [], ◌∷◌, length, Option, Some, None, Bool, true, false, ◌&&◌, refl, ap, ◌∙◌, subst, arith}
use Rattle.std.specs.Prelude.{ℤ, pos, negsuc, slice_get, nat_lt, nat_le}
use Rattle.std.proofs.lemmas.Bool.Decides.{nat_tests}
use Rattle.unit_io.specs.Tapes.{TapeState}
use Rattle.unit_io.specs.Numbered.{unit_at}
use Rattle.unit_calls.specs.CallsMade.{Made, read}
use Rattle.sil_model.specs.declared.table.Table.{Table}
use Rattle.sil_model.specs.Access.{field_at, set_field_at, set_whole_at, char_at, set_char_at}
use Rattle.sil_model.specs.CellWords.{kind_at, set_kind_at, word_at, set_word_at}
use Rattle.sil_model.specs.Memory.{Memory}
use Rattle.sil_model.specs.States.{State}
use Rattle.sil_micro.specs.declared.op.Target.{Target}
use Rattle.sil_micro.specs.declared.op.Target.TheVariants.{Op as Place, Statement}
use Rattle.sil_micro.specs.declared.op.Area.{Area}
use Rattle.sil_micro.specs.declared.op.Area.TheVariants as areas
use Rattle.sil_micro.specs.declared.op.Op.{Op}
use Rattle.sil_micro.specs.declared.op.Text.{Text}
use Rattle.sil_micro.specs.declared.op.Text.TheVariants as texts
use Rattle.sil_micro.specs.declared.op.Values.{Values}
use Rattle.sil_micro.specs.declared.op.Op.TheVariants.{Const, Copy, Arith, Jump, JumpIf, JumpEntry, JumpReturn, LoadField, StoreField, StoreCell, LoadChar, StoreChar, LoadWord, StoreWord, UnitCall, Begin, End as EndBy}
use Rattle.sil_micro.specs.Forms.{is_op, all_ops}
use Rattle.sil_model.specs.Entries.{entered_statement}
use Rattle.sil_micro.specs.Operations.{Effect, On, To, ToReturn, Over, Stuck, load, load_char, load_table, load_word, store, store_state, store_scratch, store_tables, store_word, state_word, set_state_word, scratch_word, set_scratch, jump_if, jump_entry, begin_if, unit_fault, end_by, read_answered, read_into, told_call, call_on, call_if, unit_held, perform}
use Rattle.sil_micro.specs.Pieces.{placed_target, placed_op, target_within, op_within, fits_part, is_part}
use Rattle.sil_micro.specs.MicroStates.{Setting, Micro, held}
use Rattle.sil_micro.specs.TableWords.{table_word, set_table_word}
use Rattle.sil_micro.specs.UnitCalls.{can_call, chars_read, set_chars_from}
use Rattle.sil_micro.specs.MicroWords.{holds, low_byte}

pub and_first : (a b : Bool) → (a && b) ≡ true → a ≡ true
and_first true b h = refl
and_first false b h = h

pub and_second : (a b : Bool) → (a && b) ≡ true → b ≡ true
and_second true b h = h
and_second false b h = absurd (cc)

-- an effect of a piece that stands at a place
abbrev pub moved : ℕ → Effect → Effect
moved base (To target u) = To (placed_target base target) u
moved base (On u) = On u
moved base (ToReturn entry u) = ToReturn entry u
moved base (Over end u) = Over end u
moved base Stuck = Stuck

-- where an effect jumps within the piece, it stays there, and doesn't go to its beginning
abbrev pub Stays : ℕ → Effect → Type 0
Stays size (To (Place q) u) = (0 < q) × (q ≤ size)
Stays size _ = Unit {0}

module _ (base size : ℕ) where
  -- an effect that doesn't jump within the piece
  record Plain (e : Effect) : Type 0 where
    same : e ≡ moved base e
    stays : Stays size e

  plain_load : (o : Option ℤ) (to : ℕ) (u : Micro) → Plain (load o to u)
  plain_load None to u = record { same = refl; stays = tt }
  plain_load (Some value) to u = record { same = refl; stays = tt }

  plain_char : (o : Option ℕ) (to : ℕ) (u : Micro) → Plain (load_char o to u)
  plain_char None to u = record { same = refl; stays = tt }
  plain_char (Some c) to u = record { same = refl; stays = tt }

  plain_table : (o : Option ℤ) (to : ℕ) (u : Micro) → Plain (load_table o to u)
  plain_table None to u = record { same = refl; stays = tt }
  plain_table (Some value) to u = record { same = refl; stays = tt }

  plain_store : (o : Option Memory) (u : Micro) → Plain (store o u)
  plain_store None u = record { same = refl; stays = tt }
  plain_store (Some m) u = record { same = refl; stays = tt }

  plain_state : (o : Option State) (u : Micro) → Plain (store_state o u)
  plain_state None u = record { same = refl; stays = tt }
  plain_state (Some s) u = record { same = refl; stays = tt }

  plain_scratch : (o : Option (ℕ → ℤ)) (u : Micro) → Plain (store_scratch o u)
  plain_scratch None u = record { same = refl; stays = tt }
  plain_scratch (Some words) u = record { same = refl; stays = tt }

  plain_tables : (o : Option (List Table)) (u : Micro) → Plain (store_tables o u)
  plain_tables None u = record { same = refl; stays = tt }
  plain_tables (Some tables) u = record { same = refl; stays = tt }

  plain_load_word : (area : Area) (at : ℤ) (to : ℕ) (u : Micro) → Plain (load_word area at to u)
  plain_load_word areas.State at to u = plain_load (state_word u.state at) to u
  plain_load_word areas.Scratch at to u = plain_load (scratch_word u.scratch at) to u
  plain_load_word areas.Tables at to u = plain_table (table_word u.state.tables at) to u
  plain_load_word areas.Kind at to u = plain_load (kind_at u.state.memory at) to u
  plain_load_word areas.Bytes at to u = plain_load (word_at u.state.memory at) to u

  plain_store_word : (area : Area) (at value : ℤ) (u : Micro) → Plain (store_word area at value u)
  plain_store_word areas.State at value u = plain_state (set_state_word u.state at value) u
  plain_store_word areas.Scratch at value u = plain_scratch (set_scratch u.scratch at value) u
  plain_store_word areas.Tables at value u = plain_tables (set_table_word u.state.tables at value) u
  plain_store_word areas.Kind at value u = plain_store (set_kind_at u.state.memory at value) u
  plain_store_word areas.Bytes at value u = plain_store (set_word_at u.state.memory at value) u

  plain_entry : (o : Option ℕ) (u : Micro) → Plain (jump_entry o u)
  plain_entry None u = record { same = refl; stays = tt }
  plain_entry (Some k) u = record { same = refl; stays = tt }

  plain_begin : (b : Bool) (k : ℕ) (u : Micro) → Plain (begin_if b k u)
  plain_begin false k u = record { same = refl; stays = tt }
  plain_begin true k u = record { same = refl; stays = tt }

  plain_fault : (o : Option ℕ) (u : Micro) → Plain (unit_fault o u)
  plain_fault None u = record { same = refl; stays = tt }
  plain_fault (Some unit) u = record { same = refl; stays = tt }

  plain_end : (by : ℤ) (u : Micro) → Plain (end_by by u)
  plain_end (pos zero) u = record { same = refl; stays = tt }
  plain_end (pos (suc zero)) u = record { same = refl; stays = tt }
  plain_end (pos (suc (suc zero))) u = record { same = refl; stays = tt }
  plain_end (pos (suc (suc (suc zero)))) u = record { same = refl; stays = tt }
  plain_end (pos (suc (suc (suc (suc zero))))) u = record { same = refl; stays = tt }
  plain_end (pos (suc (suc (suc (suc (suc zero)))))) u = plain_fault u.failed u
  plain_end (pos (suc (suc (suc (suc (suc (suc n))))))) u = record { same = refl; stays = tt }
  plain_end (negsuc n) u = record { same = refl; stays = tt }

  plain_read : (o : Option Memory) (unit to : ℕ) (u : Micro) (made : Made) → Plain (read_answered o unit to u made)
  plain_read None unit to u made = record { same = refl; stays = tt }
  plain_read (Some m) unit to u made = record { same = refl; stays = tt }

  plain_into : (text : Text) (unit to : ℕ) (u : Micro) (t : TapeState) → Plain (read_into text unit to u t)
  plain_into texts.None unit to u t = record { same = refl; stays = tt }
  plain_into (texts.Format i) unit to u t = record { same = refl; stays = tt }
  plain_into (texts.Chars at len) unit to u t = plain_read (set_chars_from u.state.memory (held u.registers at) (chars_read u at len t)) unit to u (read t)

  plain_told : (g : Setting) (call : ℕ) (text : Text) (values : Values) (unit to : ℕ) (u : Micro) (t : TapeState) → Plain (told_call g call text values unit to u t)
  plain_told g zero text values unit to u t = record { same = refl; stays = tt }
  plain_told g (suc zero) text values unit to u t = record { same = refl; stays = tt }
  plain_told g (suc (suc zero)) text values unit to u t = plain_into text unit to u t
  plain_told g (suc (suc (suc zero))) text values unit to u t = record { same = refl; stays = tt }
  plain_told g (suc (suc (suc (suc zero)))) text values unit to u t = record { same = refl; stays = tt }
  plain_told g (suc (suc (suc (suc (suc zero))))) text values unit to u t = record { same = refl; stays = tt }
  plain_told g (suc (suc (suc (suc (suc (suc zero)))))) text values unit to u t = record { same = refl; stays = tt }
  plain_told g (suc (suc (suc (suc (suc (suc (suc n))))))) text values unit to u t = record { same = refl; stays = tt }

  plain_on : (o : Option (Option TapeState)) (to : ℕ) (u : Micro) (call : TapeState → Effect) → ((t : TapeState) → Plain (call t)) → Plain (call_on o to u call)
  plain_on None to u call told = record { same = refl; stays = tt }
  plain_on (Some None) to u call told = record { same = refl; stays = tt }
  plain_on (Some (Some t)) to u call told = told t

  plain_call : (b : Bool) (unit to : ℕ) (u : Micro) (call : TapeState → Effect) → ((t : TapeState) → Plain (call t)) → Plain (call_if b unit to u call)
  plain_call false unit to u call told = record { same = refl; stays = tt }
  plain_call true unit to u call told = plain_on (unit_at u.state.tapes unit) to u call told

  abbrev pay : ℕ → Micro → Micro
  pay w u = record u { spent = u.spent + w }

  pub record Same (g : Setting) (op : Op) (u : Micro) : Type 0 where
    pub same : perform g (placed_op base op) u ≡ moved base (perform g op u)
    pub stays : Stays size (perform g op u)

  stays_target : (target : Target) (u : Micro) → target_within size target ≡ true → Stays size (To target u)
  stays_target (Place q) u h = (grind (arith, nat_tests, and_first (nat_lt 0 q) (nat_le q size) h), grind (arith, nat_tests, and_second (nat_lt 0 q) (nat_le q size) h))
  stays_target (Statement k) u h = tt

  same_if : (b : Bool) (target : Target) (u : Micro) → jump_if b (placed_target base target) u ≡ moved base (jump_if b target u)
  same_if true target u = refl
  same_if false target u = refl

  stays_if : (b : Bool) (target : Target) (u : Micro) → target_within size target ≡ true → Stays size (jump_if b target u)
  stays_if true target u h = stays_target target u h
  stays_if false target u h = tt

  from_plain : (g : Setting) (op : Op) (u : Micro) → placed_op base op ≡ op → Plain (perform g op u) → Same g op u
  from_plain g op u e a = record { same = ap (λ o. perform g o u) e ∙ a.same; stays = a.stays }

  pub performs : (g : Setting) (op : Op) (u : Micro) → op_within size op ≡ true → Same g op u
  performs g (Const to value) u h = record { same = refl; stays = tt }
  performs g (Copy to from) u h = record { same = refl; stays = tt }
  performs g (Arith kind to left right) u h = record { same = refl; stays = tt }
  performs g (Jump to) u h = record { same = refl; stays = stays_target to (pay 8 u) h }
  performs g (JumpIf test left right to) u h =
      let b = holds test (held u.registers left) (held u.registers right) in
      record { same = same_if b to (pay 8 u); stays = stays_if b to (pay 8 u) h }
  performs g (JumpEntry entry) u h = from_plain g (JumpEntry entry) u refl (plain_entry (entered_statement u.state.memory.limits.cell_size g.statements (held u.registers entry)) (pay 28 u))
  performs g (JumpReturn entry) u h = record { same = refl; stays = tt }
  performs g (LoadField f to at) u h = from_plain g (LoadField f to at) u refl (plain_load (field_at u.state.memory (held u.registers at) f) to (pay 28 u))
  performs g (StoreField f at from) u h = from_plain g (StoreField f at from) u refl (plain_store (set_field_at u.state.memory (held u.registers at) f (held u.registers from)) (pay 28 u))
  performs g (StoreCell at a f v) u h = from_plain g (StoreCell at a f v) u refl (plain_store (set_whole_at u.state.memory (held u.registers at) (held u.registers a) (held u.registers f) (held u.registers v)) (pay 28 u))
  performs g (LoadChar to at) u h = from_plain g (LoadChar to at) u refl (plain_char (char_at u.state.memory (held u.registers at)) to (pay 28 u))
  performs g (StoreChar at from) u h = from_plain g (StoreChar at from) u refl (plain_store (set_char_at u.state.memory (held u.registers at) (low_byte (held u.registers from))) (pay 28 u))
  performs g (LoadWord area to at) u h = from_plain g (LoadWord area to at) u refl (plain_load_word area (held u.registers at) to (pay 28 u))
  performs g (StoreWord area at from) u h = from_plain g (StoreWord area at from) u refl (plain_store_word area (held u.registers at) (held u.registers from) (pay 28 u))
  performs g (UnitCall call unit to text values) u h =
      let after = pay 28 u in
      let n = unit_held after unit in
      from_plain g (UnitCall call unit to text values) u refl (plain_call (can_call g after call text values) n to after (told_call g call text values n to after) (λ t. plain_told g call text values n to after t))
  performs g (Begin k) u h = from_plain g (Begin k) u refl (plain_begin (nat_lt u.state.steps g.bound) k (pay 28 u))
  performs g (EndBy by) u h = from_plain g (EndBy by) u refl (plain_end (held u.registers by) (pay 28 u))

-- what holds of all operations holds of each
pub op_at : (test : Op → Bool) (ops : List Op) (i : ℕ) (op : Op) → all_ops test ops ≡ true → slice_get ops i ≡ Some op → test op ≡ true
op_at test [] i op h e = absurd (cc)
op_at test (o ∷ ops) zero op h e = let same : o ≡ op = cc in subst (λ x. test x ≡ true) same (and_first (test o) (all_ops test ops) h)
op_at test (o ∷ ops) (suc i) op h e = op_at test ops i op (and_second (test o) (all_ops test ops) h) e

-- an operation of a part jumps within it
pub op_inside : (part : List Op) (i : ℕ) (op : Op) → is_part part ≡ true → slice_get part i ≡ Some op → op_within (length part) op ≡ true
op_inside part i op h e = and_second (is_op op) (op_within (length part) op) (op_at (fits_part (length part)) part i op h e)
