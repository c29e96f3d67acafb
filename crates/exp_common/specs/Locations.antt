-- Where the locations of a statement lead.
use Rattle.std.specs.Prelude.{ℕ, ◌+◌, ◌<◌, All, Option, Some, None, IfSome}
use Rattle.sil_model.specs.declared.program.Arg.{Arg}
use Rattle.sil_model.specs.declared.program.Arg.TheVariants.{Goto, Gotos}

-- the statement that a location of statement k leads to; a null one leads to the next
abbrev pub lead : ℕ → Option ℕ → ℕ
lead k None = k + 1
lead k (Some j) = j

-- a location is null, or one of so many statements
abbrev pub IsAmong : ℕ → Option ℕ → Type 0
IsAmong count location = IfSome location (λ j. j < count)

-- the locations of an operand are among so many statements
abbrev pub LocatesWithin : ℕ → Arg → Type 0
LocatesWithin count (Goto location) = IsAmong count location
LocatesWithin count (Gotos locations) = All (IsAmong count) locations
LocatesWithin count _ = Unit {0}
