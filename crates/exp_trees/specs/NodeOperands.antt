-- The operands of macros on trees.
use Rattle.std.specs.Prelude.{Option, Some, None, ℤ}
use Rattle.sil_model.specs.declared.program.Arg.{Arg}
use Rattle.sil_model.specs.declared.program.Arg.TheVariants.{Absent, Place}

-- a place that may be null
abbrev pub place_or_null : Option ℤ → Arg
place_or_null None = Absent
place_or_null (Some at) = Place at
