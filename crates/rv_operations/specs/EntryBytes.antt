-- The bytes of syntax tables.
use Rattle.std.specs.Prelude.{ℕ, List, ◌++◌, Option, Some, None, ℤ}
use Rattle.std.specs.List.{flat_map}
use Rattle.std.specs.Int.{w64, cast_unsigned}
use Rattle.sil_base.specs.Bytes.{low_bytes}
use Rattle.sil_model.specs.declared.table.Entry.{Entry}
use Rattle.sil_model.specs.declared.table.Table.{Table}
use Rattle.sil_micro.specs.TableWords.{action_number, next_table, puts}

-- the value of PUT, 0 where there is none
abbrev pub put_value : Option ℤ → ℕ
put_value None = 0
put_value (Some z) = cast_unsigned w64 z

-- the sixteen bytes of a table's entry
abbrev pub table_entry_part : Entry → List ℕ
table_entry_part e =
    low_bytes 1 (action_number e.action) ++ low_bytes 1 (puts e.put) ++ low_bytes 2 (next_table e.action) ++ low_bytes 4 0 ++ low_bytes 8 (put_value e.put)

abbrev pub table_part : Table → List ℕ
table_part table = flat_map table_entry_part table.entries
