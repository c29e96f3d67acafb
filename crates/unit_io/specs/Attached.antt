-- The units themselves, as they were handed in and as their calls have left them.
use Rattle.std.specs.Prelude.{List, Option}
use Rattle.unit_io.specs.declared.units.Units.{Units}

-- in the order of their numbers from 1, none where one is absent
abbrev pub attached : {U : Type 0} → Units U → List (Option U)
attached units = units.slots
