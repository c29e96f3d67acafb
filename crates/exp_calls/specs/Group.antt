-- The macro that returns from a procedure.
use Rattle.std.specs.Prelude.{Bool, true, false}
use Rattle.sil_macros.specs.declared.names.Macro.{Macro}
use Rattle.sil_macros.specs.declared.names.Macro.TheVariants.{Rrturn}

abbrev pub is_return : Macro → Bool
is_return Rrturn = true
is_return _ = false
