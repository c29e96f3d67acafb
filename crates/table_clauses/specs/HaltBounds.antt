-- Where walks stop.
use Rattle.std.specs.Prelude.{ℕ, ◌≤◌}
use Rattle.std.specs.declared.ops.ControlFlow.{ControlFlow}
use Rattle.std.specs.declared.ops.ControlFlow.TheVariants.{Continue, Break}
use Rattle.table_clauses.specs.declared.streams.Halt.{Halt}
use Rattle.table_clauses.specs.declared.streams.Halt.TheVariants.{Stops}
use Rattle.table_clauses.specs.declared.streams.Scan.{Scan}

-- behind no more than so many characters
abbrev pub HaltsWithin : ℕ → Halt → Type 0
HaltsWithin most (Stops n put) = n ≤ most
HaltsWithin most _ = Unit {0}

abbrev pub TurnsWithin : ℕ → ControlFlow Halt Scan → Type 0
TurnsWithin most (Break halt) = HaltsWithin most halt
TurnsWithin most (Continue scan) = Unit {0}
