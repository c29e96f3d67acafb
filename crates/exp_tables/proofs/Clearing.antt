-- Every entry of a table gets an action.
use Rattle.std.proofs.Common.{◌≡◌, ℕ, zero, suc, ◌+◌, ◌*◌, ◌≤◌, ◌<◌, List, [], ◌∷◌, ◌++◌, length, replicate, take, Option, Some, true, false, refl, ap, sym, subst, ◌∙◌, arith, lit≤}
use Rattle.std.proofs.Math.ListN.{length-set}
use Rattle.std.proofs.lemmas.Bool.Decides.{nat_tests}
use Rattle.std.proofs.lemmas.List.{take_more_set}
use Rattle.std.specs.Prelude.{ℤ, pos, nat_eq, slice_set}
use Rattle.sil_macros.specs.declared.names.Macro.TheVariants.{Clertb}
use Rattle.sil_model.specs.declared.program.Arg.TheVariants.{Absent, Key, Table as TableNumber}
use Rattle.sil_model.specs.declared.program.Flow.TheVariants.{Next}
use Rattle.sil_model.specs.declared.program.Specials.{Specials}
use Rattle.sil_model.specs.declared.table.Action.{Action}
use Rattle.sil_model.specs.declared.table.Entry.{Entry}
use Rattle.sil_model.specs.declared.table.Table.{Table}
use Rattle.sil_model.specs.Fits.{bounds_of}
use Rattle.sil_model.specs.Integers.{wrapped_sum}
use Rattle.sil_model.specs.States.{State}
use Rattle.sil_model.specs.WellFormed.{IsEntry, IsTable}
use Rattle.sil_model.proofs.Keeps.{all_at}
use Rattle.sil_micro.specs.Expands.{Does, Makes, at}
use Rattle.sil_micro.specs.MicroStates.{Setting, Micro, Registers}
use Rattle.sil_micro.specs.TableWords.{action_number}
use Rattle.sil_micro.proofs.Making.{more, by_way}
use Rattle.table_clauses.specs.SyntaxClauses.{all_plain, clertb, plain}
use Rattle.table_clauses.specs.SyntaxTable.{table_clause, table_visits}
use Rattle.table_clauses.proofs.TablesKept.{AreEntries, entry_set}
use Rattle.exp_tables.specs.TableParts.{clear_code}
use Rattle.exp_tables.proofs.Effects.{after_change}
use Rattle.exp_tables.proofs.EntryWords.{IsPlain, action_set, in_table, key_plain, plain_good, put_set, set_same, there}
use Rattle.exp_tables.proofs.Arithmetic.{add_pos}

-- ---- entries that are set one after another

unfoldable cleared : Entry → ℕ → ℕ → List Entry → List Entry
cleared entry zero i entries = entries
cleared entry (suc n) i entries = cleared entry n (i + 1) (slice_set entries i entry)

take_all : {A : Type 0} (xs : List A) (n : ℕ) → length xs ≡ n → take n xs ≡ xs
take_all [] zero e = refl
take_all [] (suc n) e = absurd (omega (arith, e))
take_all (x ∷ xs) zero e = absurd (omega (arith, e))
take_all (x ∷ xs) (suc n) e = ap (λ ys. x ∷ ys) (take_all xs n (omega (arith, e)))

one_more : {A : Type 0} (n : ℕ) (x : A) → replicate n x ++ (x ∷ []) ≡ replicate (n + 1) x
one_more zero x = refl
one_more (suc n) x = let e : suc n + 1 ≡ suc (n + 1) = omega arith in rw e (ap (λ ys. x ∷ ys) (one_more n x))

cleared_is : (entry : Entry) (n i : ℕ) (entries : List Entry) → length entries ≡ i + n → take i entries ≡ replicate i entry → cleared entry n i entries ≡ replicate (i + n) entry
unfolding cleared
cleared_is entry zero i entries long front =
    let e : i + 0 ≡ i = omega arith in
    rw e (sym (take_all entries i (omega (arith, long))) ∙ front)
cleared_is entry (suc n) i entries long front =
    let e : i + suc n ≡ i + 1 + n = omega arith in
    let more_front : take (i + 1) (slice_set entries i entry) ≡ replicate (i + 1) entry = take_more_set entries i entry (omega (arith, long)) ∙ ap (λ ys. ys ++ (entry ∷ [])) front ∙ one_more i entry in
    rw e (cleared_is entry n (i + 1) (slice_set entries i entry) (omega (arith, long, length-set entries i entry)) more_front)

all_cleared : (action : Action) (entries : List Entry) → length entries ≡ 256 → cleared (plain action) 256 0 entries ≡ all_plain action
unfolding all_plain
all_cleared action entries long = cleared_is (plain action) 256 0 entries long refl

-- ---- the loop

module _ (g : Setting) (k t : ℕ) (action : Action) (before : State) (failed : Option ℕ) (words : ℕ → ℤ) (r : Registers) (below : t < length before.tables) (few : length before.tables ≤ 256) (stays : IsPlain action) where
  abbrev tables : List Table
  tables = before.tables

  -- the state at the loop's head
  abbrev at_entry : List Table → ℕ → ℤ → ℕ → Micro
  at_entry now i a w = record {
    state = record before { tables = now; steps = before.steps + 1 };
    registers = record r { r4 = pos 0; r8 = pos (512 * t + 512); r9 = pos (action_number action); r10 = pos (512 * t + 2 * i); r11 = pos 1; r12 = a };
    scratch = words;
    failed = failed;
    spent = w;
  }

  clear_loop : (n i : ℕ) (entries : List Entry) (a : ℤ) (w : ℕ) → i + n ≡ 256 → AreEntries (length tables) entries → w + 88 * n + 8 ≤ 105200 →
      Makes g (before.statement + 1) (clear_code k t (action_number action)) 6 (at_entry (in_table tables t below entries) i a w) (after_change before (Some (Next, in_table tables t below (cleared (plain action) n i entries)))) 105200
  unfolding clear_code cleared
  clear_loop zero i entries a w is good pays =
      let z : nat_eq (512 * t + 2 * i) (512 * t + 512) ≡ true = grind (arith, nat_tests) in
      record { fuel = 2; meets = simp z (refl, omega (arith, pays)) }
  clear_loop (suc n) i entries a w is good pays =
      let z : nat_eq (512 * t + 2 * i) (512 * t + 512) ≡ false = grind (arith, nat_tests) in
      let low : i < 256 = omega (arith, is) in
      let long : i < length entries = omega (arith, good.size, low) in
      let old = there entries i long in
      let up : wrapped_sum (pos (512 * t + 2 * i)) (pos 1) ≡ pos (512 * t + 2 * i + 1) = add_pos (512 * t + 2 * i) 1 (512 * t + 2 * i + 1) refl (omega (arith, below, few, low)) in
      let again : wrapped_sum (pos (512 * t + 2 * i + 1)) (pos 1) ≡ pos (512 * t + 2 * (i + 1)) = add_pos (512 * t + 2 * i + 1) 1 (512 * t + 2 * (i + 1)) (omega arith) (omega (arith, below, few, low)) in
      let first = put_set tables t below entries i old.0 low old.1 (all_at (IsEntry (length tables)) entries i old.0 good.entries old.1) in
      let second = action_set tables t below entries i old.0 action low long stays in
      by_way (clear_loop n (i + 1) (slice_set entries i (plain action)) (pos (512 * t + 2 * i + 1)) (w + 8 + 8 + 28 + 28 + 8 + 8) (omega (arith, is)) (entry_set (length tables) entries i (plain action) (plain_good (length tables) action stays) good) (omega (arith, pays)))
      (λ f y. record { fuel = more 6 f; meets = simp (z, up, first, second, again) y })

module _ (k t : ℕ) (action : Action) (specials : Specials) where
  pub clertb_does : Does k (clear_code k t (action_number action)) specials (TableNumber t ∷ Key action ∷ []) (table_clause Clertb) (table_visits Clertb)
  unfolding table_clause clertb clear_code
  clertb_does g program parameters u h =
      let before : State = at k u.state in
      let tables = u.state.tables in
      let count = h.valid.table_count in
      let most = h.setting.well_formed.table_count in
      let here = h.within 0 Absent (lit≤ tt) in
      let below : t < length tables = omega (arith, here, count) in
      let few : length tables ≤ 256 = omega (arith, most, count) in
      let stays = key_plain (bounds_of program parameters.settings) action (h.within 1 Absent (lit≤ tt)) in
      let found = there tables t below in
      let good : IsTable (length tables) found.0 = subst (λ n. IsTable n found.0) (sym count) (all_at (IsTable (length program.tables)) tables t found.0 h.valid.tables found.1) in
      let start : in_table tables t below found.0.entries ≡ tables = set_same tables t found.0 found.1 in
      let all = all_cleared action found.0.entries good.size in
      let zero_word : 512 * t + 2 * 0 ≡ 512 * t = omega arith in
      let goes = clear_loop g k t action before u.failed u.scratch u.registers below few stays 256 0 found.0.entries u.registers.r12 (28 + 8 + 8 + 8 + 8 + 8) (omega arith) good (omega arith) in
      by_way (subst (λ now. Makes g (k + 1) (clear_code k t (action_number action)) 6 (at_entry g k t action before u.failed u.scratch u.registers below few stays now 0 u.registers.r12 (28 + 8 + 8 + 8 + 8 + 8)) (after_change before (Some (Next, in_table tables t below (cleared (plain action) 256 0 found.0.entries)))) 105200) start goes)
      (λ fuel y. let y' = simp (zero_word, all) at y in record { fuel = more 6 fuel; meets = simp (h.left, found.1) y' })
