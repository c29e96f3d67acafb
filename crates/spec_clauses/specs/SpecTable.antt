-- The table of the macros on specifiers: their clauses, and the visits that these make.
use Rattle.std.specs.Prelude.{ℕ, Bool, true, false}
use Rattle.sil_macros.specs.declared.names.Macro.{Macro}
use Rattle.sil_macros.specs.declared.names.Macro.TheVariants.{Addlg, Bksize, Fshrtn, Getlg, Getlth, Getspc, Locsp, Putlg, Putspc, Remsp, Setlc, Setsp, Shortn, Subsp}
use Rattle.sil_model.specs.Effects.{Effect, on_memory, on_site, no_clause}
use Rattle.sil_model.specs.Sites.{Site}
use Rattle.sil_model.specs.States.{State}
use Rattle.spec_clauses.specs.SpecifierClauses.{addlg, bksize, fshrtn, getlg, getlth, getspc, locsp, putlg, putspc, remsp, setlc, setsp, shortn, subsp}

-- whether a macro is one of these
abbrev pub is_of_spec : Macro → Bool
is_of_spec Addlg = true
is_of_spec Bksize = true
is_of_spec Fshrtn = true
is_of_spec Getlg = true
is_of_spec Getlth = true
is_of_spec Getspc = true
is_of_spec Locsp = true
is_of_spec Putlg = true
is_of_spec Putspc = true
is_of_spec Remsp = true
is_of_spec Setlc = true
is_of_spec Setsp = true
is_of_spec Shortn = true
is_of_spec Subsp = true
is_of_spec _ = false

unfoldable pub spec_clause : Macro → Site → State → Effect
spec_clause Addlg = on_memory addlg
spec_clause Bksize = on_site bksize
spec_clause Fshrtn = on_memory fshrtn
spec_clause Getlg = on_memory getlg
spec_clause Getlth = on_memory getlth
spec_clause Getspc = on_memory getspc
spec_clause Locsp = on_memory locsp
spec_clause Putlg = on_memory putlg
spec_clause Putspc = on_memory putspc
spec_clause Remsp = on_memory remsp
spec_clause Setlc = on_memory setlc
spec_clause Setsp = on_memory setsp
spec_clause Shortn = on_memory shortn
spec_clause Subsp = on_memory subsp
spec_clause _ = no_clause

-- the visits that a clause makes to cells, characters, table entries and links
abbrev pub spec_visits : Macro → Site → State → ℕ
spec_visits Addlg site s = 3
spec_visits Bksize site s = 3
spec_visits Fshrtn site s = 4
spec_visits Getlg site s = 2
spec_visits Getlth site s = 2
spec_visits Getspc site s = 5
spec_visits Locsp site s = 4
spec_visits Putlg site s = 2
spec_visits Putspc site s = 5
spec_visits Remsp site s = 5
spec_visits Setlc site s = 1
spec_visits Setsp site s = 4
spec_visits Shortn site s = 2
spec_visits Subsp site s = 6
spec_visits _ site s = 0
