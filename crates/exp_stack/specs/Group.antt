-- The macros of the stack that are expanded so far.
use Rattle.std.specs.Prelude.{Bool, true, false}
use Rattle.sil_macros.specs.declared.names.Macro.{Macro}
use Rattle.sil_macros.specs.declared.names.Macro.TheVariants.{Pop, Push, Spop, Spush}

abbrev pub is_stack : Macro → Bool
is_stack Pop = true
is_stack Push = true
is_stack Spop = true
is_stack Spush = true
is_stack _ = false
