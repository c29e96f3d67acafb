-- Entries of statements.
use Rattle.std.specs.Prelude.{ℕ, ◌-◌, ◌/◌, ◌%◌, ◌&&◌, ◌==◌, nat_le, nat_lt, Option, Some, None, ℤ, pos, negsuc, if◌then◌else◌}
use Rattle.sil_base.specs.declared.places.TheConstants.{FIRST_ENTRY}

-- the statement, of so many, whose entry a number is, where entries are so far apart
unfoldable pub entered_statement : ℕ → ℕ → ℤ → Option ℕ
entered_statement size count (negsuc n) = None
entered_statement size count (pos n) =
    if nat_le FIRST_ENTRY n && ((n - FIRST_ENTRY) % size == 0) && nat_lt ((n - FIRST_ENTRY) / size) count then Some ((n - FIRST_ENTRY) / size) else None
