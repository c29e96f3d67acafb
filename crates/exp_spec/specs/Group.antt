-- The macros on specifiers that are expanded so far.
use Rattle.std.specs.Prelude.{Bool, true, false}
use Rattle.sil_macros.specs.declared.names.Macro.{Macro}
use Rattle.sil_macros.specs.declared.names.Macro.TheVariants.{Addlg, Bksize, Fshrtn, Getlg, Getlth, Getspc, Locsp, Putlg, Putspc, Remsp, Setlc, Setsp, Shortn, Subsp}

abbrev pub is_spec : Macro → Bool
is_spec Addlg = true
is_spec Bksize = true
is_spec Fshrtn = true
is_spec Getlg = true
is_spec Getlth = true
is_spec Getspc = true
is_spec Locsp = true
is_spec Putlg = true
is_spec Putspc = true
is_spec Remsp = true
is_spec Setlc = true
is_spec Setsp = true
is_spec Shortn = true
is_spec Subsp = true
is_spec _ = false
