-- Syntax tables as words: two for each entry.
use Rattle.std.specs.Prelude.{ℕ, zero, suc, ◌+◌, ◌*◌, ◌/◌, ◌%◌, List, length, Option, Some, None, ℤ, pos, negsuc, nat_lt, ◌==◌, if◌then◌else◌, slice_get, slice_set}
use Rattle.sil_model.specs.Access.{◌>>=◌}
use Rattle.sil_model.specs.declared.table.Action.{Action}
use Rattle.sil_model.specs.declared.table.Action.TheVariants.{Contin, Goto, Stop, Stopsh, Error}
use Rattle.sil_model.specs.declared.table.Entry.{Entry}
use Rattle.sil_model.specs.declared.table.Table.{Table}

-- ---- the words of an entry

abbrev pub action_number : Action → ℕ
action_number Contin = 0
action_number (Goto next) = 1
action_number Stop = 2
action_number Stopsh = 3
action_number Error = 4

abbrev pub next_table : Action → ℕ
next_table (Goto next) = next
next_table _ = 0

abbrev pub puts : Option ℤ → ℕ
puts None = 0
puts (Some value) = 1

-- the action, 256 where something is put, and 65,536 times the next table
abbrev pub action_word : Entry → ℤ
action_word entry = pos (action_number entry.action + 256 * puts entry.put + 65536 * next_table entry.action)

-- what is put, 0 where nothing is
abbrev pub put_word : Option ℤ → ℤ
put_word None = pos 0
put_word (Some value) = value

-- ---- the entry of two words; none where they spell no entry of so many tables

abbrev pub action_of : ℕ → ℕ → ℕ → Option Action
action_of count zero zero = Some Contin
action_of count (suc zero) next = if nat_lt next count then Some (Goto next) else None
action_of count (suc (suc zero)) zero = Some Stop
action_of count (suc (suc (suc zero))) zero = Some Stopsh
action_of count (suc (suc (suc (suc zero)))) zero = Some Error
action_of count _ _ = None

abbrev pub put_of : ℕ → ℤ → Option (Option ℤ)
put_of zero (pos zero) = Some None
put_of (suc zero) value = Some (Some value)
put_of _ _ = None

unfoldable pub entry_of : ℕ → ℤ → ℤ → Option Entry
entry_of count (negsuc word) value = None
entry_of count (pos word) value = do
  action ← action_of count (word % 256) (word / 65536)
  put ← put_of (word / 256 % 256) value
  Some (record { action = action; put = put })

-- ---- words by their numbers

abbrev pub entry_at : List Table → ℕ → Option Entry
entry_at tables i = do
  table ← slice_get tables (i / 256)
  slice_get table.entries (i % 256)

abbrev pub with_entry : List Table → ℕ → Entry → Option (List Table)
with_entry tables i entry = do
  table ← slice_get tables (i / 256)
  Some (slice_set tables (i / 256) (record { entries = slice_set table.entries (i % 256) entry }))

-- the first word of an entry has an even number, the second the next one
unfoldable pub table_word : List Table → ℤ → Option ℤ
table_word tables (negsuc i) = None
table_word tables (pos i) = do
  entry ← entry_at tables (i / 2)
  Some (if i % 2 == 0 then action_word entry else put_word entry.put)

-- the tables after a word is set; none where that leaves no entry
unfoldable pub set_table_word : List Table → ℤ → ℤ → Option (List Table)
set_table_word tables (negsuc i) value = None
set_table_word tables (pos i) value = do
  old ← entry_at tables (i / 2)
  new ← (if i % 2 == 0 then entry_of (length tables) value (put_word old.put) else entry_of (length tables) (action_word old) value)
  with_entry tables (i / 2) new
