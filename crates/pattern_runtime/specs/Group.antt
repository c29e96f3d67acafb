-- The macros on patterns that are expanded here.
use Rattle.std.specs.Prelude.{Bool, true, false}
use Rattle.sil_macros.specs.declared.names.Macro.{Macro}
use Rattle.sil_macros.specs.declared.names.Macro.TheVariants.{Cpypat, Linkor, Locapt, Locapv, Lvalue}

abbrev pub is_pattern : Macro → Bool
is_pattern Cpypat = true
is_pattern Linkor = true
is_pattern Locapt = true
is_pattern Locapv = true
is_pattern Lvalue = true
is_pattern _ = false
