-- Words of tables are set in their bytes.
use Rattle.std.proofs.Common.{◌≡◌, ℕ, zero, suc, ◌+◌, ◌*◌, ◌/◌, ◌%◌, ◌^◌, ◌<◌, ◌≤◌, List, ◌++◌, length, Option, Some, None, Bool, true, false, cond, ◌==◌, refl, sym, ap, subst, ◌∙◌, arith}
use Rattle.std.specs.Prelude.{ℤ, pos, negsuc, nat_lt, option_and_then, slice_set, All, FitsSigned}
use Rattle.std.specs.List.{flat_map}
use Rattle.std.specs.Int.{w64, cast_unsigned}
use Rattle.std.proofs.lemmas.List.{length-set}
use Rattle.std.proofs.lemmas.List.Elements.{All-set}
use Rattle.sil_base.specs.Bytes.{low_bytes, with_piece}
use Rattle.sil_model.specs.declared.table.Action.{Action}
use Rattle.sil_model.specs.declared.table.Action.TheVariants.{Contin, Goto, Stop, Stopsh, Error}
use Rattle.sil_model.specs.declared.table.Entry.{Entry}
use Rattle.sil_model.specs.declared.table.Table.{Table}
use Rattle.sil_model.specs.WellFormed.{GoesWithin, FitsOption, IsEntry, IsTable}
use Rattle.sil_micro.specs.TableWords.{action_number, next_table, puts, action_word, put_word, action_of, put_of, entry_of, entry_at}
use Rattle.rv_operations.specs.EntryBytes.{put_value, table_entry_part, table_part}
use Rattle.rv_operations.proofs.Parts.{part_set}
use Rattle.rv_operations.proofs.TableBytes.{IsFound, action_small, puts_small, put_is_word, put_fits, entries_long, tables_long, byte_of, f, is_table, is_entry}

-- ---- the entry that two words spell

lt_true : (a b : ℕ) → nat_lt a b ≡ true → a < b
lt_true a b h = grind arith

action_is : (count a n : ℕ) (x : Action) → action_of count a n ≡ Some x → (action_number x ≡ a) × (next_table x ≡ n) × GoesWithin count x
action_is count zero zero Contin h = (refl, refl, tt)
action_is count zero zero (Goto m) h = absurd cc
action_is count zero zero Stop h = absurd cc
action_is count zero zero Stopsh h = absurd cc
action_is count zero zero Error h = absurd cc
action_is count zero (suc n) x h = absurd cc
action_is count (suc zero) n x h = by (nat_lt n count) refl h
  where
    by : (b : Bool) → nat_lt n count ≡ b → cond b (Some (Goto n)) None ≡ Some x → (action_number x ≡ 1) × (next_table x ≡ n) × GoesWithin count x
    by true lt e =
        let same : Goto n ≡ x = cc in
        subst (λ y. (action_number y ≡ 1) × (next_table y ≡ n) × GoesWithin count y) same (refl, refl, lt_true n count lt)
    by false lt e = absurd cc
action_is count (suc (suc zero)) zero x h = let same : Stop ≡ x = cc in subst (λ y. (action_number y ≡ 2) × (next_table y ≡ 0) × GoesWithin count y) same (refl, refl, tt)
action_is count (suc (suc zero)) (suc n) x h = absurd cc
action_is count (suc (suc (suc zero))) zero x h = let same : Stopsh ≡ x = cc in subst (λ y. (action_number y ≡ 3) × (next_table y ≡ 0) × GoesWithin count y) same (refl, refl, tt)
action_is count (suc (suc (suc zero))) (suc n) x h = absurd cc
action_is count (suc (suc (suc (suc zero)))) zero x h = let same : Error ≡ x = cc in subst (λ y. (action_number y ≡ 4) × (next_table y ≡ 0) × GoesWithin count y) same (refl, refl, tt)
action_is count (suc (suc (suc (suc zero)))) (suc n) x h = absurd cc
action_is count (suc (suc (suc (suc (suc a))))) n x h = absurd cc

put_is : (p : ℕ) (value : ℤ) (o : Option ℤ) → put_of p value ≡ Some o → (puts o ≡ p) × (put_word o ≡ value)
put_is zero (pos zero) o h = let same : None ≡ o = cc in subst (λ q. (puts q ≡ 0) × (put_word q ≡ pos 0)) same (refl, refl)
put_is zero (pos (suc n)) o h = absurd cc
put_is zero (negsuc n) o h = absurd cc
put_is (suc zero) value o h = let same : Some value ≡ o = cc in subst (λ q. (puts q ≡ 1) × (put_word q ≡ value)) same (refl, refl)
put_is (suc (suc p)) value o h = absurd cc

record Spells (count word : ℕ) (value : ℤ) (e : Entry) : Type 0 where
  pub action : action_number e.action ≡ word % 256
  pub next : next_table e.action ≡ word / 65536
  pub within : GoesWithin count e.action
  pub puts_is : puts e.put ≡ word / 256 % 256
  pub value_is : put_word e.put ≡ value

spells : (count word : ℕ) (value : ℤ) (e : Entry) → entry_of count (pos word) value ≡ Some e → Spells count word value e
unfolding entry_of
spells count word value e h = by (action_of count (word % 256) (word / 65536)) (put_of (word / 256 % 256) value) refl refl h
  where
    by : (x : Option Action) (o : Option (Option ℤ)) → action_of count (word % 256) (word / 65536) ≡ x → put_of (word / 256 % 256) value ≡ o → option_and_then (λ a. option_and_then (λ p. Some (record { action = a; put = p })) o) x ≡ Some e → Spells count word value e
    by None o ex eo same = absurd cc
    by (Some a) None ex eo same = absurd cc
    by (Some a) (Some p) ex eo same =
        let first = action_is count (word % 256) (word / 65536) a ex in
        let second = put_is (word / 256 % 256) value p eo in
        let is : record { action = a; put = p } ≡ e = cc in
        subst (Spells count word value) is (record { action = first.0; next = first.1; within = first.2; puts_is = second.0; value_is = second.1 })

no_entry : (count n : ℕ) (value : ℤ) → entry_of count (negsuc n) value ≡ None
unfolding entry_of
no_entry count n value = refl

-- ---- its bytes

next_fits : (count : ℕ) (a : Action) → GoesWithin count a → count ≤ 256 → next_table a ≤ 256
next_fits count Contin h few = omega arith
next_fits count (Goto next) h few = omega (arith, h)
next_fits count Stop h few = omega arith
next_fits count Stopsh h few = omega arith
next_fits count Error h few = omega arith

eight_bytes : (w : ℕ) → w < 2 ^ 25 → low_bytes 8 w ≡ low_bytes 1 (w % 256) ++ low_bytes 1 (w / 256 % 256) ++ low_bytes 2 (w / 65536) ++ low_bytes 4 0
eight_bytes w h =
    let a : w % 256 % 256 ≡ w % 256 = omega arith in
    let b : w / 256 % 256 % 256 ≡ w / 256 % 256 = omega arith in
    let c : w / 65536 % 256 ≡ w / 256 / 256 % 256 = omega arith in
    let d : w / 65536 / 256 % 256 ≡ w / 256 / 256 / 256 % 256 = omega arith in
    let e : w / 256 / 256 / 256 / 256 % 256 ≡ 0 = omega arith in
    let f : w / 256 / 256 / 256 / 256 / 256 % 256 ≡ 0 = omega arith in
    let g : w / 256 / 256 / 256 / 256 / 256 / 256 % 256 ≡ 0 = omega arith in
    let i : w / 256 / 256 / 256 / 256 / 256 / 256 / 256 % 256 ≡ 0 = omega arith in
    rw (a, b, c, d, e, f, g, i) refl

abbrev front_bytes : ℕ → ℕ → ℕ → List ℕ
front_bytes a p n = low_bytes 1 a ++ low_bytes 1 p ++ low_bytes 2 n ++ low_bytes 4 0

-- the part of an entry whose first word is set
first_set : (count word : ℕ) (old new : Entry) → count ≤ 256 → Spells count word (put_word old.put) new → table_entry_part new ≡ with_piece 0 (low_bytes 8 word) (table_entry_part old)
first_set count word old new few h =
    let small : word < 2 ^ 25 = omega (arith, h.next, next_fits count new.action h.within few) in
    let back : put_value new.put ≡ put_value old.put = put_is_word new.put ∙ ap (cast_unsigned w64) h.value_is ∙ sym (put_is_word old.put) in
    ap (λ a. front_bytes a (puts new.put) (next_table new.action) ++ low_bytes 8 (put_value new.put)) h.action
    ∙ ap (λ p. front_bytes (word % 256) p (next_table new.action) ++ low_bytes 8 (put_value new.put)) h.puts_is
    ∙ ap (λ n. front_bytes (word % 256) (word / 256 % 256) n ++ low_bytes 8 (put_value new.put)) h.next
    ∙ ap (λ bytes. bytes ++ low_bytes 8 (put_value new.put)) (sym (eight_bytes word small))
    ∙ ap (λ v. low_bytes 8 word ++ low_bytes 8 v) back

-- and the part of one whose second word is set
second_set : (count : ℕ) (value : ℤ) (old new : Entry) → count ≤ 256 → IsEntry count old → Spells count (action_number old.action + 256 * puts old.put + 65536 * next_table old.action) value new → table_entry_part new ≡ with_piece 8 (low_bytes 8 (cast_unsigned w64 value)) (table_entry_part old)
second_set count value old new few is h =
    let a : action_number new.action ≡ action_number old.action = omega (arith, h.action, action_small old.action, puts_small old.put) in
    let p : puts new.put ≡ puts old.put = omega (arith, h.puts_is, action_small old.action, puts_small old.put) in
    let n : next_table new.action ≡ next_table old.action = omega (arith, h.next, action_small old.action, puts_small old.put) in
    let v : put_value new.put ≡ cast_unsigned w64 value = put_is_word new.put ∙ ap (cast_unsigned w64) h.value_is in
    ap (λ x. front_bytes x (puts new.put) (next_table new.action) ++ low_bytes 8 (put_value new.put)) a
    ∙ ap (λ x. front_bytes (action_number old.action) x (next_table new.action) ++ low_bytes 8 (put_value new.put)) p
    ∙ ap (λ x. front_bytes (action_number old.action) (puts old.put) x ++ low_bytes 8 (put_value new.put)) n
    ∙ ap (λ x. front_bytes (action_number old.action) (puts old.put) (next_table old.action) ++ low_bytes 8 x) v

-- an entry that is spelled with a value that fits
spelled_entry : (count word : ℕ) (value : ℤ) (e : Entry) → FitsSigned w64 value → Spells count word value e → IsEntry count e
spelled_entry count word value e fits h = record { within = h.within; put = by e.put (subst (FitsSigned w64) (sym h.value_is) fits) }
  where
    by : (o : Option ℤ) → FitsSigned w64 (put_word o) → FitsOption o
    by None fits = tt
    by (Some z) fits = fits

-- ---- an entry after a word of a number is set

abbrev pub entry_after : ℕ → ℕ → Entry → ℤ → Option Entry
entry_after count i old value = cond (i % 2 == 0) (entry_of count value (put_word old.put)) (entry_of count (action_word old) value)

record IsSet (count i : ℕ) (old new : Entry) (value : ℤ) : Type 0 where
  pub entry : IsEntry count new
  pub bytes : table_entry_part new ≡ with_piece (8 * (i % 2)) (low_bytes 8 (cast_unsigned w64 value)) (table_entry_part old)

entry_set : (count i : ℕ) (old new : Entry) (value : ℤ) → count ≤ 256 → IsEntry count old → FitsSigned w64 value → entry_after count i old value ≡ Some new → IsSet count i old new value
entry_set count i old new value few is fits h = by (i % 2 == 0) refl h
  where
    first : (z : ℤ) → 8 * (i % 2) ≡ 0 → entry_of count z (put_word old.put) ≡ Some new → IsSet count i old new z
    first (pos word) even h =
        let s = spells count word (put_word old.put) new h in
        record { entry = spelled_entry count word (put_word old.put) new (put_fits count old is) s; bytes = first_set count word old new few s ∙ ap (λ k. with_piece k (low_bytes 8 word) (table_entry_part old)) (sym even) }
    first (negsuc n) even h = let none = no_entry count n (put_word old.put) in absurd cc

    by : (b : Bool) → (i % 2 == 0) ≡ b → cond b (entry_of count value (put_word old.put)) (entry_of count (action_word old) value) ≡ Some new → IsSet count i old new value
    by true e h = let even : 8 * (i % 2) ≡ 0 = grind (arith, e) in first value even h
    by false e h =
        let odd : 8 * (i % 2) ≡ 8 = grind (arith, e) in
        let word : ℕ = action_number old.action + 256 * puts old.put + 65536 * next_table old.action in
        let s = spells count word value new h in
        record { entry = spelled_entry count word value new fits s; bytes = second_set count value old new few is s ∙ ap (λ k. with_piece k (low_bytes 8 (cast_unsigned w64 value)) (table_entry_part old)) (sym odd) }

-- ---- the tables after it

module _ (count : ℕ) (tables : List Table) (i : ℕ) (old new : Entry) (value : ℤ) (few : count ≤ 256) (whole : All (IsTable count) tables) (is : entry_at tables (i / 2) ≡ Some old) (fits : FitsSigned w64 value) (set : entry_after count i old value ≡ Some new) where
  abbrev place : IsFound tables (i / 2) old
  place = f count tables i old few whole is

  abbrev pub table_after : Table
  table_after = record { entries = slice_set place.table.entries (i / 2 % 256) new }

  abbrev pub tables_after : List Table
  tables_after = slice_set tables (i / 2 / 256) table_after

  s : IsSet count i old new value
  s = entry_set count i old new value few (is_entry count tables i old few whole is) fits set

  pub tables_set : with_piece (8 * i) (low_bytes 8 (cast_unsigned w64 value)) (flat_map table_part tables) ≡ flat_map table_part tables_after
  tables_set =
      let new_bytes = low_bytes 8 (cast_unsigned w64 value) in
      let inner = sym (part_set table_entry_part 16 place.table.entries (i / 2 % 256) (8 * (i % 2)) new_bytes old new (entries_long place.table.entries) place.there (omega arith) s.bytes) in
      ap (λ k. with_piece k new_bytes (flat_map table_part tables)) (byte_of i)
      ∙ part_set table_part 4096 tables (i / 2 / 256) (i / 2 % 256 * 16 + 8 * (i % 2)) new_bytes place.table table_after (tables_long count tables whole) place.here (omega arith) inner

  pub whole_after : All (IsTable count) tables_after
  whole_after =
      let before = is_table count tables i old few whole is in
      let table : IsTable count table_after = record { size = length-set place.table.entries (i / 2 % 256) new ∙ before.size; entries = All-set (IsEntry count) place.table.entries (i / 2 % 256) new s.entry before.entries } in
      All-set (IsTable count) tables (i / 2 / 256) table_after table whole

  pub count_after : length tables_after ≡ length tables
  count_after = length-set tables (i / 2 / 256) table_after
