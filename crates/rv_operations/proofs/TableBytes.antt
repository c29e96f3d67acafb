-- Words of tables in their bytes.
use Rattle.std.proofs.Common.{◌≡◌, ℕ, ◌+◌, ◌*◌, ◌/◌, ◌%◌, ◌^◌, ◌<◌, ◌≤◌, List, ◌++◌, length, Option, Some, None, Bool, true, false, cond, ◌==◌, refl, ap, ◌∙◌, arith}
use Rattle.std.specs.Prelude.{ℤ, option_and_then, slice_get, All, FitsSigned}
use Rattle.std.specs.List.{flat_map}
use Rattle.std.specs.Int.{w64, cast_unsigned}
use Rattle.std.proofs.lemmas.Option.{slice_get_within}
use Rattle.sil_base.specs.Bytes.{number, low_bytes, piece}
use Rattle.sil_base.proofs.Numbers.{number-low_bytes}
use Rattle.sil_model.specs.declared.table.Action.{Action}
use Rattle.sil_model.specs.declared.table.Action.TheVariants.{Contin, Goto, Stop, Stopsh, Error}
use Rattle.sil_model.specs.declared.table.Entry.{Entry}
use Rattle.sil_model.specs.declared.table.Table.{Table}
use Rattle.sil_model.specs.WellFormed.{GoesWithin, FitsOption, IsEntry, IsTable}
use Rattle.sil_model.proofs.Keeps.{all_at}
use Rattle.sil_micro.specs.TableWords.{action_number, next_table, puts, action_word, put_word, entry_at}
use Rattle.rv_operations.specs.EntryBytes.{put_value, table_entry_part, table_part}
use Rattle.rv_operations.proofs.Doing.{unsigned_small}
use Rattle.rv_operations.proofs.Parts.{AreLong, parts_length, part_read}

-- ---- the words of an entry

pub next_small : (count : ℕ) (a : Action) → GoesWithin count a → count ≤ 256 → next_table a < 2 ^ 16
next_small count Contin h few = omega arith
next_small count (Goto next) h few = omega (arith, h)
next_small count Stop h few = omega arith
next_small count Stopsh h few = omega arith
next_small count Error h few = omega arith

pub action_small : (a : Action) → action_number a ≤ 4
action_small Contin = omega arith
action_small (Goto next) = omega arith
action_small Stop = omega arith
action_small Stopsh = omega arith
action_small Error = omega arith

pub puts_small : (o : Option ℤ) → puts o ≤ 1
puts_small None = omega arith
puts_small (Some z) = omega arith

pub put_is_word : (o : Option ℤ) → put_value o ≡ cast_unsigned w64 (put_word o)
put_is_word None = refl
put_is_word (Some z) = refl

pub put_fits : (count : ℕ) (e : Entry) → IsEntry count e → FitsSigned w64 (put_word e.put)
put_fits count e h = by e.put h.put
  where
    by : (o : Option ℤ) → FitsOption o → FitsSigned w64 (put_word o)
    by None h = record { sfits = omega arith }
    by (Some z) h = h

-- the word of a number among those of an entry
abbrev pub word_in : Entry → ℕ → ℤ
word_in e i = cond (i % 2 == 0) (action_word e) (put_word e.put)

four : (a p n : ℕ) → a ≤ 4 → p ≤ 1 → n < 2 ^ 16 → number (low_bytes 1 a ++ low_bytes 1 p ++ low_bytes 2 n ++ low_bytes 4 0) ≡ a + 256 * p + 65536 * n
four a p n ha hp hn = omega (arith, ha, hp, hn)

first_word : (count : ℕ) (e : Entry) → IsEntry count e → count ≤ 256 → number (piece 0 8 (table_entry_part e)) ≡ action_number e.action + 256 * puts e.put + 65536 * next_table e.action
first_word count e h few = four (action_number e.action) (puts e.put) (next_table e.action) (action_small e.action) (puts_small e.put) (next_small count e.action h.within few)

second_word : (count : ℕ) (e : Entry) → IsEntry count e → number (piece 8 8 (table_entry_part e)) ≡ cast_unsigned w64 (put_word e.put)
second_word count e h =
    let small : put_value e.put < 256 ^ 8 = omega (arith, put_is_word e.put, unsigned_small (put_word e.put) (put_fits count e h)) in
    number-low_bytes 8 (put_value e.put) small ∙ put_is_word e.put

word_fits : (count : ℕ) (e : Entry) (i : ℕ) → IsEntry count e → count ≤ 256 → FitsSigned w64 (word_in e i)
word_fits count e i h few = by (i % 2 == 0)
  where
    by : (b : Bool) → FitsSigned w64 (cond b (action_word e) (put_word e.put))
    by true = record { sfits = omega (arith, action_small e.action, puts_small e.put, next_small count e.action h.within few) }
    by false = put_fits count e h

word_read : (count : ℕ) (e : Entry) (i : ℕ) → IsEntry count e → count ≤ 256 → number (piece (8 * (i % 2)) 8 (table_entry_part e)) ≡ cast_unsigned w64 (word_in e i)
word_read count e i h few = by (i % 2 == 0) refl
  where
    by : (b : Bool) → (i % 2 == 0) ≡ b → number (piece (8 * (i % 2)) 8 (table_entry_part e)) ≡ cast_unsigned w64 (cond b (action_word e) (put_word e.put))
    by true is = let even : 8 * (i % 2) ≡ 0 = grind (arith, is) in ap (λ k. number (piece k 8 (table_entry_part e))) even ∙ first_word count e h few
    by false is = let odd : 8 * (i % 2) ≡ 8 = grind (arith, is) in ap (λ k. number (piece k 8 (table_entry_part e))) odd ∙ second_word count e h

-- ---- where an entry stands

pub record IsFound (tables : List Table) (q : ℕ) (e : Entry) : Type 0 where
  pub table : Table
  pub here : slice_get tables (q / 256) ≡ Some table
  pub there : slice_get table.entries (q % 256) ≡ Some e

pub found : (tables : List Table) (q : ℕ) (e : Entry) → entry_at tables q ≡ Some e → IsFound tables q e
found tables q e h = by (slice_get tables (q / 256)) refl h
  where
    by : (o : Option Table) → slice_get tables (q / 256) ≡ o → option_and_then (λ table. slice_get table.entries (q % 256)) o ≡ Some e → IsFound tables q e
    by None is h = absurd cc
    by (Some table) is h = record { table = table; here = is; there = h }

pub entries_long : (entries : List Entry) → AreLong table_entry_part 16 entries
entries_long entries k d h = refl

table_long : (count : ℕ) (table : Table) → IsTable count table → length (table_part table) ≡ 4096
table_long count table h = parts_length table_entry_part 16 table.entries (entries_long table.entries) ∙ ap (λ n. n * 16) h.size

pub tables_long : (count : ℕ) (tables : List Table) → All (IsTable count) tables → AreLong table_part 4096 tables
tables_long count tables h k d lt = table_long count _ (h k d lt)

pub size_of : (count : ℕ) (tables : List Table) → All (IsTable count) tables → length (flat_map table_part tables) ≡ length tables * 4096
size_of count tables h = parts_length table_part 4096 tables (tables_long count tables h)

pub byte_of : (i : ℕ) → 8 * i ≡ i / 2 / 256 * 4096 + (i / 2 % 256 * 16 + 8 * (i % 2))
byte_of i = omega arith

module _ (count : ℕ) (tables : List Table) (i : ℕ) (e : Entry) (few : count ≤ 256) (whole : All (IsTable count) tables) (is : entry_at tables (i / 2) ≡ Some e) where
  pub f : IsFound tables (i / 2) e
  f = found tables (i / 2) e is

  pub is_table : IsTable count f.table
  is_table = all_at (IsTable count) tables (i / 2 / 256) f.table whole f.here

  pub is_entry : IsEntry count e
  is_entry = all_at (IsEntry count) f.table.entries (i / 2 % 256) e is_table.entries f.there

  pub word_room : 8 * i + 8 ≤ length (flat_map table_part tables)
  word_room = omega (arith, size_of count tables whole, slice_get_within tables (i / 2 / 256) f.table f.here)

  -- a word of the tables is read
  pub table_word_read : number (piece (8 * i) 8 (flat_map table_part tables)) ≡ cast_unsigned w64 (word_in e i)
  table_word_read =
      let inner : i / 2 % 256 * 16 + 8 * (i % 2) + 8 ≤ 4096 = omega arith in
      ap (λ k. number (piece k 8 (flat_map table_part tables))) (byte_of i)
      ∙ ap number (part_read table_part 4096 tables (i / 2 / 256) (i / 2 % 256 * 16 + 8 * (i % 2)) 8 f.table (tables_long count tables whole) f.here inner)
      ∙ ap number (part_read table_entry_part 16 f.table.entries (i / 2 % 256) (8 * (i % 2)) 8 e (entries_long f.table.entries) f.there (omega arith))
      ∙ word_read count e i is_entry few

  pub table_word_fits : FitsSigned w64 (word_in e i)
  table_word_fits = word_fits count e i is_entry few
