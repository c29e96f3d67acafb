-- The macros on trees.
use Rattle.std.specs.Prelude.{Bool, true, false}
use Rattle.sil_macros.specs.declared.names.Macro.{Macro}
use Rattle.sil_macros.specs.declared.names.Macro.TheVariants.{Addsib, Addson, Insert, Maknod}

abbrev pub is_tree : Macro → Bool
is_tree Addsib = true
is_tree Addson = true
is_tree Insert = true
is_tree Maknod = true
is_tree _ = false
