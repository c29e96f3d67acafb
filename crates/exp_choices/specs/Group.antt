-- The macros that compare and those on integers that are expanded so far.
use Rattle.std.specs.Prelude.{Bool, true, false}
use Rattle.sil_macros.specs.declared.names.Macro.{Macro}
use Rattle.sil_macros.specs.declared.names.Macro.TheVariants.{Acomp, Acompc, Aeql, Aeqlc, Aeqlic, Chkval, Deql, Divide, Lcomp, Leqlc, Mnsint, Mult, Multc, Subtrt, Sum, Testf, Testfi, Vcmpic, Veql, Veqlc}

abbrev pub is_choice : Macro → Bool
is_choice Acomp = true
is_choice Acompc = true
is_choice Aeql = true
is_choice Aeqlc = true
is_choice Aeqlic = true
is_choice Chkval = true
is_choice Deql = true
is_choice Divide = true
is_choice Lcomp = true
is_choice Leqlc = true
is_choice Mnsint = true
is_choice Mult = true
is_choice Multc = true
is_choice Subtrt = true
is_choice Sum = true
is_choice Testf = true
is_choice Testfi = true
is_choice Vcmpic = true
is_choice Veql = true
is_choice Veqlc = true
is_choice _ = false
