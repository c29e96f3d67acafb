-- Words of tables are read and written.
use Rattle.std.proofs.Common.{◌≡◌, ℕ, ◌+◌, ◌*◌, ◌/◌, ◌%◌, ◌^◌, ◌<◌, ◌≤◌, List, [], ◌∷◌, length, Option, Some, None, false, refl, sym, ap, subst, ◌∙◌, arith}
use Rattle.std.specs.Prelude.{ℤ, pos, negsuc, option_and_then, slice_set, All}
use Rattle.std.specs.Int.{w64, cast_unsigned}
use Rattle.sil_base.specs.Bytes.{number, low_bytes, piece, with_piece}
use Rattle.sil_base.specs.declared.places.TheConstants.{FIRST_TABLE}
use Rattle.sil_base.proofs.Numbers.{length-low_bytes, length-with_piece, low_bytes_below, AreBytes-with_piece}
use Rattle.layout_params.specs.Sizes.{Sizes}
use Rattle.layout_params.proofs.LegalLayouts.{legal}
use Rattle.sil_model.specs.declared.table.Entry.{Entry}
use Rattle.sil_model.specs.declared.table.Table.{Table}
use Rattle.sil_model.specs.WellFormed.{IsTable}
use Rattle.sil_model.specs.Memory as abstract
use Rattle.sil_micro.specs.declared.op.Area.TheVariants as areas
use Rattle.sil_micro.specs.MicroStates.{Setting, Micro, held}
use Rattle.sil_micro.specs.Operations.{load_table, store_tables}
use Rattle.sil_micro.specs.TableWords.{table_word, set_table_word, entry_at, with_entry}
use Rattle.image_file.specs.Image.{Image}
use Rattle.rv_emulate.specs.EmulatorMemory.{Memory, loaded, stored}
use Rattle.rv_emulate.specs.EmulatorStates.{State, register}
use Rattle.rv_emulate.specs.InstrValues.{sum64}
use Rattle.rv_straight.specs.InstrEffects.{Value, Leaves}
use Rattle.rv_straight.specs.Registers.{IsFile, Keeps, Writes, read}
use Rattle.rv_straight.specs.Straight.{◌▸◌}
use Rattle.rv_straight.proofs.Registers.{read_kept}
use Rattle.rv_straight.proofs.Reaching.{start}
use Rattle.rv_routines.specs.Holds.{HoldsMemory}
use Rattle.rv_routines.proofs.Cells.{few_bytes}
use Rattle.rv_routines.proofs.Regions.{load_table as table_loads, store_table as table_stores}
use Rattle.rv_operations.specs.Homes.{home, is_temporary}
use Rattle.rv_operations.specs.CodePlaces.{Places}
use Rattle.rv_operations.specs.OpCodes.{load_word_code, store_word_code}
use Rattle.rv_operations.specs.StandsFor.{StandsFor, HoldsTables}
use Rattle.rv_operations.specs.Does.{Does, Begins}
use Rattle.rv_operations.specs.WordLaws.{LawOfLoadTables, LawOfStoreTables}
use Rattle.rv_operations.proofs.Standing.{home_kept}
use Rattle.rv_operations.proofs.Doing.{unsigned_small}
use Rattle.rv_operations.proofs.Setting.{sets, leaves_as}
use Rattle.rv_operations.proofs.TableBytes.{f, word_in, word_room, table_word_read, table_word_fits}
use Rattle.rv_operations.proofs.TableStores.{entry_after, tables_after, tables_set, whole_after, count_after}

-- ---- addresses

shifted : (x : ℕ) → 8 * x + 8 ≤ 2 ^ 20 → x * 2 ^ 3 % 2 ^ 64 ≡ 8 * x
shifted x h = omega arith

address_is : (x : ℕ) → 8 * x + 8 ≤ 2 ^ 20 → sum64 (8 * x) FIRST_TABLE ≡ FIRST_TABLE + 8 * x
address_is x h = omega arith

same_place : (x : ℕ) → 8 * x + 8 ≤ 2 ^ 20 → sum64 (FIRST_TABLE + 8 * x) 0 ≡ FIRST_TABLE + 8 * x
same_place x h = omega arith

-- ---- a word is read

word_is : (tables : List Table) (x : ℕ) → table_word tables (pos x) ≡ option_and_then (λ e. Some (word_in e x)) (entry_at tables (x / 2))
unfolding table_word
word_is tables x = refl

no_word : (tables : List Table) (n : ℕ) → table_word tables (negsuc n) ≡ None
unfolding table_word
no_word tables n = refl

module _ (image : Image) (last : ℕ) (g : Setting) (places : Places) (to at : ℕ) (u : Micro) (s : State) (to_ok : to < 16) (at_ok : at < 16) (b : Begins image last g (load_word_code places.routines s.pc areas.Tables to at) u s) where
  abbrev read_tables : List Table
  read_tables = u.state.tables

  by_entry : (x : ℕ) → held u.registers at ≡ pos x → (o : Option Entry) → entry_at read_tables (x / 2) ≡ o → Does image last g places false 4 (s.pc + 16) s (load_table (option_and_then (λ e. Some (word_in e x)) o) to u)
  by_entry x e None is = tt
  by_entry x e (Some entry) is =
      let st = b.stands in
      let l = legal g.settings.sizes b.settings.layout in
      let bytes = st.tables.bytes in
      let room : 8 * x + 8 ≤ length s.memory.tables = subst (λ xs. 8 * x + 8 ≤ length xs) (sym bytes) (word_room (length read_tables) read_tables x entry st.tables.count st.tables.whole is) in
      let near : 8 * x + 8 ≤ 2 ^ 20 = omega (arith, room, st.memory.tables_size) in
      let z = word_in entry x in
      let v : ℕ = cast_unsigned w64 z in
      let fits = table_word_fits (length read_tables) read_tables x entry st.tables.count st.tables.whole is in
      let place : ℕ = FIRST_TABLE + 8 * x in
      let at_is : register s.registers (home at) ≡ x = st.registers at at_ok ∙ ap (cast_unsigned w64) e in
      let moved : register s.registers (home at) * 2 ^ 3 % 2 ^ 64 ≡ 8 * x = ap (λ a. a * 2 ^ 3 % 2 ^ 64) at_is ∙ shifted x near in
      let load_is : loaded image.constants s.memory 8 (sum64 place 0) ≡ Some v =
      ap (λ a. loaded image.constants s.memory 8 a) (same_place x near)
      ∙ table_loads image.constants s.memory x (few_bytes g.settings.sizes u.state.memory s.memory st.memory l.most) (omega (arith, st.memory.kinds_size, st.memory.valid.count)) room
      ∙ ap (λ xs. Some (number (piece (8 * x) 8 xs))) bytes
      ∙ ap Some (table_word_read (length read_tables) read_tables x entry st.tables.count st.tables.whole is) in
      sets places st (λ q free. refl) (start b.code st.file) 4 (Value (8 * x) ∷ Value FIRST_TABLE ∷ Value place ∷ Value v ∷ []) to z ((28, place) ∷ (29, FIRST_TABLE) ∷ (28, 8 * x) ∷ []) (s.pc + 16) to_ok fits (omega arith) (omega arith) (moved ▸ refl ▸ address_is x near ▸ (load_is, unsigned_small z fits) ▸ tt) refl refl refl (omega arith)

  by_place : (z : ℤ) → held u.registers at ≡ z → Does image last g places false 4 (s.pc + 16) s (load_table (table_word read_tables z) to u)
  by_place (negsuc n) e = subst (λ o. Does image last g places false 4 (s.pc + 16) s (load_table o to u)) (sym (no_word read_tables n)) tt
  by_place (pos x) e = subst (λ o. Does image last g places false 4 (s.pc + 16) s (load_table o to u)) (sym (word_is read_tables x)) (by_entry x e (entry_at read_tables (x / 2)) refl)

pub loads_table : LawOfLoadTables
loads_table image last g places to at u s to_ok at_ok b = by_place image last g places to at u s to_ok at_ok b (held u.registers at) refl

-- ---- a word is written

-- the tables' bytes after a word of them was set
abbrev tables_written : Memory → ℕ → ℕ → Memory
tables_written m x v = record m { tables = with_piece (8 * x) (low_bytes 8 v) m.tables }

holds_after : (sizes : Sizes) (mm : abstract.Memory) (m : Memory) (x v : ℕ) → 8 * x + 8 ≤ length m.tables → HoldsMemory sizes mm m → HoldsMemory sizes mm (tables_written m x v)
holds_after sizes mm m x v room h =
    let size : length (with_piece (8 * x) (low_bytes 8 v) m.tables) ≡ length m.tables = length-with_piece (8 * x) (low_bytes 8 v) m.tables (omega (arith, room, length-low_bytes 8 v)) in
    record {
      limit = h.limit;
      flags = h.flags;
      values = h.values;
      valid = h.valid;
      size = h.size;
      kinds_size = h.kinds_size;
      tables_size = omega (arith, size, h.tables_size);
      scratch_size = h.scratch_size;
      packed = h.packed;
      kinds = h.kinds;
      bytes = record { cells = h.bytes.cells; kinds = h.bytes.kinds; tables = AreBytes-with_piece (8 * x) (low_bytes 8 v) m.tables (low_bytes_below 8 v) h.bytes.tables; scratch = h.bytes.scratch };
    }

-- other tables are left
abbrev with_tables : Micro → List Table → Micro
with_tables u tables = record u { state = record u.state { tables = tables } }

stands_tables : (g : Setting) (u : Micro) (s : State) (tables : List Table) (x v pc : ℕ) (ys : List ℕ) → StandsFor g u s → 8 * x + 8 ≤ length s.memory.tables → HoldsTables (with_tables u tables) (tables_written s.memory x v) → IsFile ys → Keeps is_temporary s.registers ys → StandsFor g (with_tables u tables) (record s { pc = pc; registers = ys; memory = tables_written s.memory x v })
stands_tables g u s tables x v pc ys st room holds file kept = record {
  file = file;
  registers = λ r h. kept (home r) (home_kept r h) ∙ st.registers r h;
  fit = st.fit;
  bound = kept 25 refl ∙ st.bound;
  statement = kept 26 refl ∙ st.statement;
  left = ap (λ n. n + u.state.steps) (kept 27 refl) ∙ st.left;
  memory = holds_after g.settings.sizes u.state.memory s.memory x v room st.memory;
  count = st.count;
  words = record { current = st.words.current; previous = st.words.previous; words = st.words.words; current_fits = st.words.current_fits; previous_fits = st.words.previous_fits; words_fit = st.words.words_fit };
  tables = holds;
  tapes = st.tapes;
  failed = st.failed;
}

set_is : (tables : List Table) (x : ℕ) (value : ℤ) → set_table_word tables (pos x) value ≡ option_and_then (λ old. option_and_then (λ new. with_entry tables (x / 2) new) (entry_after (length tables) x old value)) (entry_at tables (x / 2))
unfolding set_table_word
set_is tables x value = refl

no_set : (tables : List Table) (n : ℕ) (value : ℤ) → set_table_word tables (negsuc n) value ≡ None
unfolding set_table_word
no_set tables n value = refl

module _ (image : Image) (last : ℕ) (g : Setting) (places : Places) (at from : ℕ) (u : Micro) (s : State) (at_ok : at < 16) (from_ok : from < 16) (b : Begins image last g (store_word_code places.routines s.pc areas.Tables at from) u s) where
  abbrev old_tables : List Table
  old_tables = u.state.tables

  abbrev value : ℤ
  value = held u.registers from

  abbrev Goal : Option (List Table) → Type 0
  Goal o = Does image last g places false 4 (s.pc + 16) s (store_tables o u)

  -- the entry and the new one
  by_new : (x : ℕ) → held u.registers at ≡ pos x → (old new : Entry) → entry_at old_tables (x / 2) ≡ Some old → entry_after (length old_tables) x old value ≡ Some new → Goal (with_entry old_tables (x / 2) new)
  by_new x e old new is set =
      let st = b.stands in
      let l = legal g.settings.sizes b.settings.layout in
      let count = length old_tables in
      let few = st.tables.count in
      let whole = st.tables.whole in
      let bytes = st.tables.bytes in
      let fits = st.fit from from_ok in
      let after = tables_after count old_tables x old new value few whole is fits set in
      let found = f count old_tables x old few whole is in
      let room : 8 * x + 8 ≤ length s.memory.tables = subst (λ xs. 8 * x + 8 ≤ length xs) (sym bytes) (word_room count old_tables x old few whole is) in
      let near : 8 * x + 8 ≤ 2 ^ 20 = omega (arith, room, st.memory.tables_size) in
      let v : ℕ = cast_unsigned w64 value in
      let place : ℕ = FIRST_TABLE + 8 * x in
      let at_is : register s.registers (home at) ≡ x = st.registers at at_ok ∙ ap (cast_unsigned w64) e in
      let moved : register s.registers (home at) * 2 ^ 3 % 2 ^ 64 ≡ 8 * x = ap (λ a. a * 2 ^ 3 % 2 ^ 64) at_is ∙ shifted x near in
      let ws : Writes = (28, place) ∷ (29, FIRST_TABLE) ∷ (28, 8 * x) ∷ [] in
      let read_is : read s.registers ws (home from) ≡ v = read_kept is_temporary s.registers ws (home from) refl (home_kept from from_ok) ∙ st.registers from from_ok in
      let memory = tables_written s.memory x v in
      let store_is : stored s.memory 8 (sum64 place 0) (read s.registers ws (home from)) ≡ Some memory =
      ap (λ a. stored s.memory 8 a (read s.registers ws (home from))) (same_place x near)
      ∙ ap (λ w. stored s.memory 8 place w) read_is
      ∙ table_stores s.memory x v (few_bytes g.settings.sizes u.state.memory s.memory st.memory l.most) (omega (arith, st.memory.kinds_size, st.memory.valid.count)) room in
      let same : length after ≡ count = count_after count old_tables x old new value few whole is fits set in
      let holds : HoldsTables (with_tables u after) memory = record {
        bytes = ap (λ xs. with_piece (8 * x) (low_bytes 8 v) xs) bytes ∙ tables_set count old_tables x old new value few whole is fits set;
        count = omega (arith, same, few);
        whole = subst (λ n. All (IsTable n) after) (sym same) (whole_after count old_tables x old new value few whole is fits set);
      } in
      let done = leaves_as places st (λ q free. refl) (start b.code st.file) 4 (Value (8 * x) ∷ Value FIRST_TABLE ∷ Value place ∷ Leaves memory ∷ []) (with_tables u after) (s.pc + 16) (omega arith) (omega arith) (moved ▸ refl ▸ address_is x near ▸ store_is ▸ tt) refl (λ zs file kept. stands_tables g u s after x v (s.pc + 16) zs st room holds file kept) (omega arith) in
      subst (λ o. Goal (option_and_then (λ table. Some (slice_set old_tables (x / 2 / 256) (record { entries = slice_set table.entries (x / 2 % 256) new }))) o)) (sym found.here) done

  by_set : (x : ℕ) → held u.registers at ≡ pos x → (old : Entry) → entry_at old_tables (x / 2) ≡ Some old → (o : Option Entry) → entry_after (length old_tables) x old value ≡ o → Goal (option_and_then (λ new. with_entry old_tables (x / 2) new) o)
  by_set x e old is None set = tt
  by_set x e old is (Some new) set = by_new x e old new is set

  by_old : (x : ℕ) → held u.registers at ≡ pos x → (o : Option Entry) → entry_at old_tables (x / 2) ≡ o → Goal (option_and_then (λ old. option_and_then (λ new. with_entry old_tables (x / 2) new) (entry_after (length old_tables) x old value)) o)
  by_old x e None is = tt
  by_old x e (Some old) is = by_set x e old is (entry_after (length old_tables) x old value) refl

  by_word : (z : ℤ) → held u.registers at ≡ z → Goal (set_table_word old_tables z value)
  by_word (negsuc n) e = subst Goal (sym (no_set old_tables n value)) tt
  by_word (pos x) e = subst Goal (sym (set_is old_tables x value)) (by_old x e (entry_at old_tables (x / 2)) refl)

pub stores_table : LawOfStoreTables
stores_table image last g places at from u s at_ok from_ok b = by_word image last g places at from u s at_ok from_ok b (held u.registers at) refl
