-- The macros that walk characters that are expanded so far.
use Rattle.std.specs.Prelude.{Bool, true, false}
use Rattle.sil_macros.specs.declared.names.Macro.{Macro}
use Rattle.sil_macros.specs.declared.names.Macro.TheVariants.{Apdsp, Date, Getbal, Intspc, Lexcmp, Rplace, Spcint, Trimsp, Varid}

abbrev pub is_string : Macro → Bool
is_string Apdsp = true
is_string Date = true
is_string Getbal = true
is_string Intspc = true
is_string Lexcmp = true
is_string Rplace = true
is_string Spcint = true
is_string Trimsp = true
is_string Varid = true
is_string _ = false
