-- Entries of statements, and numbers within a limit.
use Rattle.std.specs.Prelude.{ℕ, ◌+◌, ◌-◌, ◌/◌, ◌%◌, nat_le, nat_lt, List, [], ◌∷◌, Option, Some, None, ◌&&◌, ◌==◌, if◌then◌else◌, ℤ, pos, negsuc}
use Rattle.sil_base.specs.declared.places.TheConstants.{FIRST_ENTRY}
use Rattle.sil_macros.specs.MacroRows.{row}
use Rattle.sil_symbols.specs.declared.stmt.Stmt.{Stmt}

-- how many statements are executable
abbrev pub executable_count : List Stmt → ℕ
executable_count [] = 0
executable_count (s ∷ source) = if (row s.name).assembly then executable_count source else executable_count source + 1

-- the statement whose entry a number is, where there are so many statements and a descriptor has so many bytes
abbrev pub statement_at : ℕ → ℕ → ℤ → Option ℕ
statement_at size count (negsuc n) = None
statement_at size count (pos n) =
    if nat_le FIRST_ENTRY n && ((n - FIRST_ENTRY) % size == 0) && nat_lt ((n - FIRST_ENTRY) / size) count
    then Some ((n - FIRST_ENTRY) / size)
    else None

-- a number from 0 to a limit
abbrev pub number_within : ℕ → ℤ → Option ℕ
number_within limit (negsuc n) = None
number_within limit (pos n) = if nat_le n limit then Some n else None
