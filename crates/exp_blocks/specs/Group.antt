-- The macros on blocks that are expanded here.
use Rattle.std.specs.Prelude.{Bool, true, false}
use Rattle.sil_macros.specs.declared.names.Macro.{Macro}
use Rattle.sil_macros.specs.declared.names.Macro.TheVariants.{Movblk, Top}

abbrev pub is_block : Macro → Bool
is_block Movblk = true
is_block Top = true
is_block _ = false
