-- Which registers of the emulator keep what.
use Rattle.std.specs.Prelude.{ℕ, ◌+◌, Bool, ◌&&◌, ◌||◌, nat_le, nat_lt, if◌then◌else◌}

-- the place of a micro register: x1 to x9, and x18 to x24; x25 is the bound, x26 the statement's number, x27 the steps left
abbrev pub home : ℕ → ℕ
home r = if nat_lt r 9 then r + 1 else r + 9

-- x10 to x17 and x28 to x31 are free within an operation
abbrev pub is_temporary : ℕ → Bool
is_temporary q = (nat_le 10 q && nat_le q 17) || nat_le 28 q
