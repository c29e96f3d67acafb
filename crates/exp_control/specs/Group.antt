-- The macros of flow whose expansions stand here.
use Rattle.std.specs.Prelude.{Bool, true, false}
use Rattle.sil_macros.specs.declared.names.Macro.{Macro}
use Rattle.sil_macros.specs.declared.names.Macro.TheVariants.{Adreal, Branch, Branic, Dvreal, Exreal, Init, Intrl, Istack, Link, Load, Mnreal, Mpreal, Mstime, Ordvst, Proc, Pstack, Rcomp, Realst, Rlint, Sbreal, Selbra, Spreal, Unload}

-- those that are neither a trap nor nothing
abbrev pub does_something : Macro → Bool
does_something Branch = true
does_something Branic = true
does_something Init = true
does_something Istack = true
does_something Load = true
does_something Mstime = true
does_something Pstack = true
does_something Selbra = true
does_something _ = false

abbrev pub is_control : Macro → Bool
is_control Adreal = true
is_control Branch = true
is_control Branic = true
is_control Dvreal = true
is_control Exreal = true
is_control Init = true
is_control Intrl = true
is_control Istack = true
is_control Link = true
is_control Load = true
is_control Mnreal = true
is_control Mpreal = true
is_control Mstime = true
is_control Ordvst = true
is_control Proc = true
is_control Pstack = true
is_control Rcomp = true
is_control Realst = true
is_control Rlint = true
is_control Sbreal = true
is_control Selbra = true
is_control Spreal = true
is_control Unload = true
is_control _ = false
