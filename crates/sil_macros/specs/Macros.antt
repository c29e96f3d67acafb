-- Macros by name and by number.
use Rattle.std.specs.Prelude.{ℕ, List, [], ◌∷◌, Option, slice_get, nat_eq}
use Rattle.std.specs.List.{find}
use Rattle.std.specs.Cmp.Lexicographic.{pointwise}
use Rattle.sil_macros.specs.declared.names.Macro.{Macro}
use Rattle.sil_macros.specs.declared.names.Macro.TheVariants.{Acomp, Acompc, Addlg, Addsib, Addson, Adjust, Adreal, Aeql, Aeqlc, Aeqlic, Apdsp, Array, Bksize, Bkspce, Branch, Branic, Buffer, Chkval, Clertb, Copy, Cpypat, Date, Decra, Deql, Descr, Divide, Dvreal, End, Endex, Enfile, Equ, Expint, Exreal, Format, Fshrtn, Getac, Getbal, Getd, Getdc, Getlg, Getlth, Getsiz, Getspc, Incra, Incrv, Init, Insert, Intrl, Intspc, Istack, Lcomp, Leqlc, Lexcmp, Lhere, Link, Linkor, Load, Locapt, Locapv, Locsp, Lvalue, Maknod, Mnreal, Mnsint, Mova, Movblk, Movd, Movdic, Movv, Mpreal, Mstime, Mult, Multc, Ordvst, Output, Plugtb, Pop, Proc, Pstack, Push, Putac, Putd, Putdc, Putlg, Putspc, Putvc, Rcall, Rcomp, Realst, Remsp, Resetf, Rewind, Rlint, Rplace, Rrturn, Rsetfi, Sbreal, Selbra, Setac, Setav, Setf, Setfi, Setlc, Setsiz, Setsp, Setva, Setvc, Shortn, Spcint, Spec, Spop, Spreal, Spush, Stprnt, Stread, Stream, String, Subsp, Subtrt, Sum, Testf, Testfi, Title, Top, Trimsp, Unload, Varid, Vcmpic, Veql, Veqlc}
use Rattle.sil_macros.specs.MacroRows.{row}

abbrev pub number_of : Macro → ℕ
number_of m = (row m).number

abbrev pub name_of : Macro → List ℕ
name_of m = (row m).name

-- all macros, in the order of their numbers
abbrev pub macros : List Macro
macros = Acomp ∷ Acompc ∷ Addlg ∷ Addsib ∷ Addson ∷ Adjust ∷ Adreal ∷ Aeql ∷ Aeqlc ∷ Aeqlic ∷ Apdsp ∷ Array ∷ Bksize ∷ Bkspce ∷ Branch ∷ Branic ∷ Buffer ∷ Chkval ∷ Clertb ∷ Copy ∷ Cpypat ∷ Date ∷ Decra ∷ Deql ∷ Descr ∷ Divide ∷ Dvreal ∷ End ∷ Endex ∷ Enfile ∷ Equ ∷ Expint ∷ Exreal ∷ Format ∷ Fshrtn ∷ Getac ∷ Getbal ∷ Getd ∷ Getdc ∷ Getlg ∷ Getlth ∷ Getsiz ∷ Getspc ∷ Incra ∷ Incrv ∷ Init ∷ Insert ∷ Intrl ∷ Intspc ∷ Istack ∷ Lcomp ∷ Leqlc ∷ Lexcmp ∷ Lhere ∷ Link ∷ Linkor ∷ Load ∷ Locapt ∷ Locapv ∷ Locsp ∷ Lvalue ∷ Maknod ∷ Mnreal ∷ Mnsint ∷ Mova ∷ Movblk ∷ Movd ∷ Movdic ∷ Movv ∷ Mpreal ∷ Mstime ∷ Mult ∷ Multc ∷ Ordvst ∷ Output ∷ Plugtb ∷ Pop ∷ Proc ∷ Pstack ∷ Push ∷ Putac ∷ Putd ∷ Putdc ∷ Putlg ∷ Putspc ∷ Putvc ∷ Rcall ∷ Rcomp ∷ Realst ∷ Remsp ∷ Resetf ∷ Rewind ∷ Rlint ∷ Rplace ∷ Rrturn ∷ Rsetfi ∷ Sbreal ∷ Selbra ∷ Setac ∷ Setav ∷ Setf ∷ Setfi ∷ Setlc ∷ Setsiz ∷ Setsp ∷ Setva ∷ Setvc ∷ Shortn ∷ Spcint ∷ Spec ∷ Spop ∷ Spreal ∷ Spush ∷ Stprnt ∷ Stread ∷ Stream ∷ String ∷ Subsp ∷ Subtrt ∷ Sum ∷ Testf ∷ Testfi ∷ Title ∷ Top ∷ Trimsp ∷ Unload ∷ Varid ∷ Vcmpic ∷ Veql ∷ Veqlc ∷ []

-- the macro of a number, or none
abbrev pub with_number : ℕ → Option Macro
with_number n = slice_get macros n

-- the macro of a name, or none
abbrev pub with_name : List ℕ → Option Macro
with_name bytes = find (λ m. pointwise nat_eq (name_of m) bytes) macros
