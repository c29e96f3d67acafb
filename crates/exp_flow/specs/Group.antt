-- The macros of flow that are expanded so far.
use Rattle.std.specs.Prelude.{Bool, true, false}
use Rattle.sil_macros.specs.declared.names.Macro.{Macro}
use Rattle.sil_macros.specs.declared.names.Macro.TheVariants.{Endex}

abbrev pub is_flow : Macro → Bool
is_flow Endex = true
is_flow _ = false
