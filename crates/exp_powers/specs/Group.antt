-- The macro that raises an integer to a power.
use Rattle.std.specs.Prelude.{Bool, true, false}
use Rattle.sil_macros.specs.declared.names.Macro.{Macro}
use Rattle.sil_macros.specs.declared.names.Macro.TheVariants.{Expint}

abbrev pub is_power : Macro → Bool
is_power Expint = true
is_power _ = false
