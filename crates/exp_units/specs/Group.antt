-- The macros of units that are expanded so far.
use Rattle.std.specs.Prelude.{Bool, true, false}
use Rattle.sil_macros.specs.declared.names.Macro.{Macro}
use Rattle.sil_macros.specs.declared.names.Macro.TheVariants.{Bkspce, Enfile, Output, Rewind}

-- those that move a unit
abbrev pub is_move : Macro → Bool
is_move Bkspce = true
is_move Enfile = true
is_move Rewind = true
is_move _ = false

abbrev pub is_output : Macro → Bool
is_output Output = true
is_output _ = false
