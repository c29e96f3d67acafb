-- Counts of calls and of faults.
use Rattle.std.specs.Prelude.{ℕ, ◌+◌, ◌-◌, ◌^◌, ◌≤◌, min, Bool, List, nat_eq}
use Rattle.std.specs.List.{list_any}

-- a count that never falls has risen, or stands at its end
abbrev pub Rose : ℕ → ℕ → Type 0
Rose before now = min (before + 1) (2 ^ 64 - 1) ≤ now

-- the next of a count that stays at its end
abbrev pub next_count : ℕ → ℕ
next_count n = min (n + 1) (2 ^ 64 - 1)

-- after so many calls, the next one has a number that fails
abbrev pub call_fails : ℕ → List ℕ → Bool
call_fails calls fails = list_any (nat_eq (next_count calls)) fails
