-- The sixteen bytes of a table's entry: the action from 0 to 4, whether there is a PUT, the next table for GOTO and else 0, four zeros, and the PUT, 0 where there is none.
use Rattle.std.specs.Prelude.{ℕ, zero, suc, List, ◌++◌, take, drop, Bool, true, ◌&&◌, ◌==◌, nat_lt, nat_le, if◌then◌else◌, slice_index}
use Rattle.sil_base.specs.Bytes.{number, low_bytes, piece}

abbrev pub table_entry : ℕ → ℕ → ℕ → ℕ → List ℕ
table_entry action puts next put = low_bytes 1 action ++ low_bytes 1 puts ++ low_bytes 2 next ++ low_bytes 4 0 ++ low_bytes 8 put

-- bytes are those of an entry, by the number of tables
abbrev pub entry_fits : ℕ → List ℕ → Bool
entry_fits tables entry =
    let action = slice_index entry 0 in
    let next = number (piece 2 2 entry) in
    nat_le action 4 && nat_le (slice_index entry 1) 1 && (if action == 1 then nat_lt next tables else next == 0) && (number (piece 4 4 entry) == 0) && (if slice_index entry 1 == 0 then number (piece 8 8 entry) == 0 else true)

-- n entries, one after another
abbrev pub entries_fit : ℕ → ℕ → List ℕ → Bool
entries_fit tables zero bytes = true
entries_fit tables (suc n) bytes = entry_fits tables (take 16 bytes) && entries_fit tables n (drop 16 bytes)
