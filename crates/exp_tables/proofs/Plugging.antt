-- The entries of the characters of a string get an action.
use Rattle.std.proofs.Common.{◌≡◌, ℕ, zero, suc, ◌+◌, ◌*◌, ◌≤◌, ◌<◌, ◌^◌, List, [], ◌∷◌, length, Option, Some, true, false, refl, sym, subst, arith, lit≤}
use Rattle.std.specs.Prelude.{ℤ, pos, nat_eq, slice_set}
use Rattle.layout_params.specs.Parameters.{Parameters}
use Rattle.sil_macros.specs.declared.names.Macro.TheVariants.{Plugtb}
use Rattle.sil_model.specs.declared.program.Arg.TheVariants.{Absent, Key, Place, Table as TableNumber}
use Rattle.sil_model.specs.declared.program.Flow.TheVariants.{Next}
use Rattle.sil_model.specs.declared.program.Program.{Program}
use Rattle.sil_model.specs.declared.program.Specials.{Specials}
use Rattle.sil_model.specs.declared.table.Action.{Action}
use Rattle.sil_model.specs.declared.table.Entry.{Entry}
use Rattle.sil_model.specs.declared.table.Table.{Table}
use Rattle.sil_model.specs.Access.{◌>>=◌, char_at, descr_at}
use Rattle.sil_model.specs.Fits.{bounds_of}
use Rattle.sil_model.specs.Integers.{◌⊞◌, wrapped_sum}
use Rattle.sil_model.specs.Memory.{IsMemory}
use Rattle.sil_model.specs.States.{State}
use Rattle.sil_model.specs.WellFormed.{IsEntry, IsTable}
use Rattle.sil_model.proofs.Keeps.{all_at}
use Rattle.sil_micro.specs.Expands.{CanBegin, Does, Makes, at}
use Rattle.sil_micro.specs.MicroStates.{Setting, Micro, Registers}
use Rattle.sil_micro.specs.TableWords.{action_number}
use Rattle.sil_micro.proofs.Making.{by_option, more, by_way}
use Rattle.exp_common.proofs.Questions.{by_read}
use Rattle.string_clauses.specs.Walks.{each, each_visits}
use Rattle.string_clauses.proofs.Room.{char_is_byte}
use Rattle.table_clauses.specs.SyntaxClauses.{TableEffect, plain, plug_turn, plugtb}
use Rattle.table_clauses.specs.SyntaxTable.{plugtb_turns, table_clause, table_visits}
use Rattle.table_clauses.proofs.TablesKept.{AreEntries, entry_set}
use Rattle.exp_tables.specs.TableParts.{plug_code}
use Rattle.exp_tables.proofs.Effects.{after_change}
use Rattle.exp_tables.proofs.EntryWords.{IsPlain, action_set, in_table, key_plain, plain_good, put_set, set_same, there}
use Rattle.exp_tables.proofs.Arithmetic.{add_pos}

module _ (g : Setting) (k : ℕ) (s : ℤ) (t : ℕ) (action : Action) (before : State) (failed : Option ℕ) (words : ℕ → ℤ) (r : Registers) (first : ℤ) (total cost : ℕ) (valid : IsMemory before.memory) (below : t < length before.tables) (few : length before.tables ≤ 256) (stays : IsPlain action) where
  abbrev tables : List Table
  tables = before.tables

  -- the state at the loop's head
  abbrev at_char : List Table → ℕ → ℤ → ℤ → ℕ → Micro
  at_char now i a b w = record {
    state = record before { tables = now; steps = before.steps + 1 };
    registers = record r { r2 = first; r4 = pos 0; r7 = pos total; r8 = pos (action_number action); r9 = pos (512 * t); r10 = pos i; r11 = pos 1; r12 = a; r13 = b };
    scratch = words;
    failed = failed;
    spent = w;
  }

  plug_loop : (n i : ℕ) (entries : List Entry) (a b : ℤ) (w : ℕ) (go : List Entry → TableEffect) → ((es : List Entry) → go es ≡ Some (Next, in_table tables t below es)) → i + n ≡ total → total < 2 ^ 62 → AreEntries (length tables) entries →
      w + 200 * each_visits (plug_turn before.memory first (plain action)) i n entries + 200 ≤ cost →
      Makes g (before.statement + 1) (plug_code k s t (action_number action)) 14 (at_char (in_table tables t below entries) i a b w) (after_change before (each (plug_turn before.memory first (plain action)) i n entries >>= go)) cost
  unfolding each each_visits plug_turn plug_code
  plug_loop zero i entries a b w go ends is small good pays =
      let z : nat_eq i total ≡ true = grind arith in
      record { fuel = 2; meets = simp (z, ends entries) (refl, omega (arith, pays)) }
  plug_loop (suc n) i entries a b w go ends is small good pays =
      let z : nat_eq i total ≡ false = grind arith in
      let up : wrapped_sum (pos i) (pos 1) ≡ pos (i + 1) = add_pos i 1 (i + 1) refl (omega (arith, is, small)) in
      by_option (char_at before.memory (first ⊞ pos i))
      (λ e. let pays' = simp e at pays in record { fuel = 8; meets = simp (z, e) (refl, refl, omega (arith, pays')) })
      (λ c e.
      let pays' = simp e at pays in
      let byte = char_is_byte before.memory (first ⊞ pos i) c valid e in
      let long : c < length entries = omega (arith, good.size, byte) in
      let old = there entries c long in
      let double : wrapped_sum (pos c) (pos c) ≡ pos (2 * c) = add_pos c c (2 * c) (omega arith) (omega (arith, byte)) in
      let word : wrapped_sum (pos (2 * c)) (pos (512 * t)) ≡ pos (512 * t + 2 * c) = add_pos (2 * c) (512 * t) (512 * t + 2 * c) (omega arith) (omega (arith, below, few, byte)) in
      let next : wrapped_sum (pos (512 * t + 2 * c)) (pos 1) ≡ pos (512 * t + 2 * c + 1) = add_pos (512 * t + 2 * c) 1 (512 * t + 2 * c + 1) refl (omega (arith, below, few, byte)) in
      let cut = put_set tables t below entries c old.0 byte old.1 (all_at (IsEntry (length tables)) entries c old.0 good.entries old.1) in
      let set = action_set tables t below entries c old.0 action byte long stays in
      by_way (plug_loop n (i + 1) (slice_set entries c (plain action)) (pos (512 * t + 2 * c)) (pos (512 * t + 2 * c + 1)) (w + 8 + 8 + 28 + 8 + 8 + 8 + 28 + 28 + 8 + 8) go ends (omega (arith, is)) small (entry_set (length tables) entries c (plain action) (plain_good (length tables) action stays) good) (omega (arith, pays')))
      (λ f y. record { fuel = more 10 f; meets = simp (z, e, double, word, next, cut, set, up) y }))

module _ (k : ℕ) (s : ℤ) (t : ℕ) (action : Action) (specials : Specials) where
  by_length : (g : Setting) (program : Program) (parameters : Parameters) (u : Micro) → CanBegin g program parameters specials k (TableNumber t ∷ Key action ∷ Place s ∷ []) u → (o : ℤ) (f2 l : ℕ) →
      descr_at u.state.memory (s ⊞ pos u.state.memory.limits.cell_size) ≡ Some (record { a = o; f = f2; v = l }) → l < 2 ^ 48 →
      Makes g (k + 1) (plug_code k s t (action_number action)) 0 u (after_change (at k u.state) (plugtb (TableNumber t ∷ Key action ∷ Place s ∷ []) u.state.memory u.state.tables))
      (2000 + 400 * (3 + (2 + 2 * plugtb_turns u.state.tables (TableNumber t ∷ Key action ∷ Place s ∷ []) u.state.memory)))
  unfolding plugtb plug_code each
  by_length g program parameters u h o f2 zero is few =
      let tables = u.state.tables in
      let count = h.valid.table_count in
      let here = h.within 0 Absent (lit≤ tt) in
      let found = there tables t (omega (arith, here, count)) in
      let same : slice_set tables t (record { entries = found.0.entries }) ≡ tables = set_same tables t found.0 found.1 in
      record { fuel = 9; meets = simp (h.left, is, found.1, same) (refl, omega arith) }
  by_length g program parameters u h o f2 (suc n) is few =
      let before : State = at k u.state in
      let m = u.state.memory in
      let valid = h.valid.memory in
      let tables = u.state.tables in
      let count = h.valid.table_count in
      let most = h.setting.well_formed.table_count in
      let here = h.within 0 Absent (lit≤ tt) in
      let below : t < length tables = omega (arith, here, count) in
      let many : length tables ≤ 256 = omega (arith, most, count) in
      let stays = key_plain (bounds_of program parameters.settings) action (h.within 1 Absent (lit≤ tt)) in
      let found = there tables t below in
      let good : IsTable (length tables) found.0 = subst (λ c. IsTable c found.0) (sym count) (all_at (IsTable (length program.tables)) tables t found.0 h.valid.tables found.1) in
      let start : in_table tables t below found.0.entries ≡ tables = set_same tables t found.0 found.1 in
      let z : nat_eq (suc n) 0 ≡ false = grind arith in
      let size = pos m.limits.cell_size in
      by_read m s valid (λ none. record { fuel = 10; meets = simp (h.left, is, z, none) (refl, refl, omega arith) }) (λ a f1 v1 is2 read2.
      let first = a ⊞ o in
      let turns = each_visits (plug_turn m first (plain action)) 0 (suc n) found.0.entries in
      let cost = 2000 + 400 * (3 + (2 + 2 * turns)) in
      let r : Registers = record u.registers { r1 = s; r3 = o; r5 = size; r6 = s ⊞ size } in
      let spent = 28 + 8 + 8 + 8 + 8 + 8 + 28 + 8 + 28 + 28 + 8 + 8 + 8 + 8 in
      let go : List Entry → TableEffect = λ es. Some (Next, in_table tables t below es) in
      let ends : (es : List Entry) → go es ≡ Some (Next, in_table tables t below es) = λ es. refl in
      let goes = plug_loop g k s t action before u.failed u.scratch r first (suc n) cost valid below many stays (suc n) 0 found.0.entries u.registers.r12 u.registers.r13 spent go ends (omega arith) (omega (arith, few)) good (omega arith) in
      by_way (subst (λ now. Makes g (k + 1) (plug_code k s t (action_number action)) 14 (at_char g k s t action before u.failed u.scratch r first (suc n) cost valid below many stays now 0 u.registers.r12 u.registers.r13 spent)
      (after_change before (each (plug_turn m first (plain action)) 0 (suc n) found.0.entries >>= go)) cost) start goes)
      (λ fuel y. record { fuel = more 14 fuel; meets = simp (h.left, is, z, is2, found.1) y }))

  pub plugtb_does : Does k (plug_code k s t (action_number action)) specials (TableNumber t ∷ Key action ∷ Place s ∷ []) (table_clause Plugtb) (table_visits Plugtb)
  unfolding table_clause plugtb plug_code
  plugtb_does g program parameters u h =
      let m = u.state.memory in
      by_read m (s ⊞ pos m.limits.cell_size) h.valid.memory (λ none. record { fuel = 8; meets = simp (h.left, none) (refl, refl, lit≤ tt) }) (λ o f2 l is read.
      by_length g program parameters u h o f2 l is read.value)
