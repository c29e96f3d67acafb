-- The macros of syntax tables that are expanded so far.
use Rattle.std.specs.Prelude.{Bool, true, false}
use Rattle.sil_macros.specs.declared.names.Macro.{Macro}
use Rattle.sil_macros.specs.declared.names.Macro.TheVariants.{Clertb, Plugtb, Stream}

abbrev pub is_table : Macro → Bool
is_table Clertb = true
is_table Plugtb = true
is_table Stream = true
is_table _ = false
