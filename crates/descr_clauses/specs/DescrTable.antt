-- The table of the macros on descriptors: their clauses, and the visits that these make.
use Rattle.std.specs.Prelude.{ℕ, Bool, true, false}
use Rattle.sil_macros.specs.declared.names.Macro.{Macro}
use Rattle.sil_macros.specs.declared.names.Macro.TheVariants.{Adjust, Decra, Getac, Getd, Getdc, Getsiz, Incra, Incrv, Mova, Movd, Movdic, Movv, Putac, Putd, Putdc, Putvc, Resetf, Rsetfi, Setac, Setav, Setf, Setfi, Setsiz, Setva, Setvc}
use Rattle.sil_model.specs.Effects.{Effect, on_memory, no_clause}
use Rattle.sil_model.specs.Sites.{Site}
use Rattle.sil_model.specs.States.{State}
use Rattle.descr_clauses.specs.DescriptorClauses.{adjust, decra, getac, getd, getdc, getsiz, incra, incrv, mova, movd, movdic, movv, putac, putd, putdc, putvc, resetf, rsetfi, setac, setav, setf, setfi, setsiz, setva, setvc}

-- whether a macro is one of these
abbrev pub is_of_descr : Macro → Bool
is_of_descr Adjust = true
is_of_descr Decra = true
is_of_descr Getac = true
is_of_descr Getd = true
is_of_descr Getdc = true
is_of_descr Getsiz = true
is_of_descr Incra = true
is_of_descr Incrv = true
is_of_descr Mova = true
is_of_descr Movd = true
is_of_descr Movdic = true
is_of_descr Movv = true
is_of_descr Putac = true
is_of_descr Putd = true
is_of_descr Putdc = true
is_of_descr Putvc = true
is_of_descr Resetf = true
is_of_descr Rsetfi = true
is_of_descr Setac = true
is_of_descr Setav = true
is_of_descr Setf = true
is_of_descr Setfi = true
is_of_descr Setsiz = true
is_of_descr Setva = true
is_of_descr Setvc = true
is_of_descr _ = false

unfoldable pub descr_clause : Macro → Site → State → Effect
descr_clause Adjust = on_memory adjust
descr_clause Decra = on_memory decra
descr_clause Getac = on_memory getac
descr_clause Getd = on_memory getd
descr_clause Getdc = on_memory getdc
descr_clause Getsiz = on_memory getsiz
descr_clause Incra = on_memory incra
descr_clause Incrv = on_memory incrv
descr_clause Mova = on_memory mova
descr_clause Movd = on_memory movd
descr_clause Movdic = on_memory movdic
descr_clause Movv = on_memory movv
descr_clause Putac = on_memory putac
descr_clause Putd = on_memory putd
descr_clause Putdc = on_memory putdc
descr_clause Putvc = on_memory putvc
descr_clause Resetf = on_memory resetf
descr_clause Rsetfi = on_memory rsetfi
descr_clause Setac = on_memory setac
descr_clause Setav = on_memory setav
descr_clause Setf = on_memory setf
descr_clause Setfi = on_memory setfi
descr_clause Setsiz = on_memory setsiz
descr_clause Setva = on_memory setva
descr_clause Setvc = on_memory setvc
descr_clause _ = no_clause

-- the visits that a clause makes to cells, characters, table entries and links
abbrev pub descr_visits : Macro → Site → State → ℕ
descr_visits Adjust site s = 4
descr_visits Decra site s = 2
descr_visits Getac site s = 3
descr_visits Getd site s = 4
descr_visits Getdc site s = 3
descr_visits Getsiz site s = 3
descr_visits Incra site s = 2
descr_visits Incrv site s = 2
descr_visits Mova site s = 2
descr_visits Movd site s = 2
descr_visits Movdic site s = 4
descr_visits Movv site s = 2
descr_visits Putac site s = 3
descr_visits Putd site s = 4
descr_visits Putdc site s = 3
descr_visits Putvc site s = 3
descr_visits Resetf site s = 2
descr_visits Rsetfi site s = 3
descr_visits Setac site s = 1
descr_visits Setav site s = 2
descr_visits Setf site s = 2
descr_visits Setfi site s = 3
descr_visits Setsiz site s = 3
descr_visits Setva site s = 2
descr_visits Setvc site s = 1
descr_visits _ site s = 0
