-- The table of the macros that compare and those on integers: their clauses, and the visits that these make.
use Rattle.std.specs.Prelude.{ℕ, Bool, true, false}
use Rattle.sil_macros.specs.declared.names.Macro.{Macro}
use Rattle.sil_macros.specs.declared.names.Macro.TheVariants.{Acomp, Acompc, Aeql, Aeqlc, Aeqlic, Chkval, Deql, Divide, Lcomp, Leqlc, Mnsint, Mult, Multc, Subtrt, Sum, Testf, Testfi, Vcmpic, Veql, Veqlc}
use Rattle.sil_model.specs.Effects.{Effect, on_memory, no_clause}
use Rattle.sil_model.specs.Sites.{Site}
use Rattle.sil_model.specs.States.{State}
use Rattle.choice_clauses.specs.ComparisonClauses.{acomp, acompc, aeql, aeqlc, aeqlic, chkval, deql, lcomp, leqlc, testf, testfi, vcmpic, veql, veqlc}
use Rattle.choice_clauses.specs.IntegerClauses.{divide, mnsint, mult, multc, subtrt, sum}

-- whether a macro is one of these
abbrev pub is_of_choice : Macro → Bool
is_of_choice Acomp = true
is_of_choice Acompc = true
is_of_choice Aeql = true
is_of_choice Aeqlc = true
is_of_choice Aeqlic = true
is_of_choice Chkval = true
is_of_choice Deql = true
is_of_choice Divide = true
is_of_choice Lcomp = true
is_of_choice Leqlc = true
is_of_choice Mnsint = true
is_of_choice Mult = true
is_of_choice Multc = true
is_of_choice Subtrt = true
is_of_choice Sum = true
is_of_choice Testf = true
is_of_choice Testfi = true
is_of_choice Vcmpic = true
is_of_choice Veql = true
is_of_choice Veqlc = true
is_of_choice _ = false

unfoldable pub choice_clause : Macro → Site → State → Effect
choice_clause Acomp = on_memory acomp
choice_clause Acompc = on_memory acompc
choice_clause Aeql = on_memory aeql
choice_clause Aeqlc = on_memory aeqlc
choice_clause Aeqlic = on_memory aeqlic
choice_clause Chkval = on_memory chkval
choice_clause Deql = on_memory deql
choice_clause Divide = on_memory divide
choice_clause Lcomp = on_memory lcomp
choice_clause Leqlc = on_memory leqlc
choice_clause Mnsint = on_memory mnsint
choice_clause Mult = on_memory mult
choice_clause Multc = on_memory multc
choice_clause Subtrt = on_memory subtrt
choice_clause Sum = on_memory sum
choice_clause Testf = on_memory testf
choice_clause Testfi = on_memory testfi
choice_clause Vcmpic = on_memory vcmpic
choice_clause Veql = on_memory veql
choice_clause Veqlc = on_memory veqlc
choice_clause _ = no_clause

-- the visits that a clause makes to cells, characters, table entries and links
abbrev pub choice_visits : Macro → Site → State → ℕ
choice_visits Acomp site s = 2
choice_visits Acompc site s = 1
choice_visits Aeql site s = 2
choice_visits Aeqlc site s = 1
choice_visits Aeqlic site s = 2
choice_visits Chkval site s = 3
choice_visits Deql site s = 2
choice_visits Divide site s = 3
choice_visits Lcomp site s = 2
choice_visits Leqlc site s = 1
choice_visits Mnsint site s = 2
choice_visits Mult site s = 3
choice_visits Multc site s = 2
choice_visits Subtrt site s = 3
choice_visits Sum site s = 3
choice_visits Testf site s = 1
choice_visits Testfi site s = 2
choice_visits Vcmpic site s = 3
choice_visits Veql site s = 2
choice_visits Veqlc site s = 1
choice_visits _ site s = 0
