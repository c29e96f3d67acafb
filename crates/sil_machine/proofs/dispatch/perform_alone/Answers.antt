use Rattle.std.proofs.Common.{◌≡◌, ◌∙◌, ◌||◌, None, refl, sym}
use Rattle.std.specs.Prelude.{false}
use Rattle.sil_macros.specs.declared.names.Macro.{Macro}
use Rattle.sil_macros.specs.declared.names.Macro.TheVariants.{Acomp, Acompc, Addlg, Addsib, Addson, Adjust, Adreal, Aeql, Aeqlc, Aeqlic, Apdsp, Bksize, Bkspce, Branch, Branic, Chkval, Clertb, Cpypat, Date, Decra, Deql, Divide, Dvreal, Endex, Enfile, Expint, Exreal, Fshrtn, Getac, Getbal, Getd, Getdc, Getlg, Getlth, Getsiz, Getspc, Incra, Incrv, Init, Insert, Intrl, Intspc, Istack, Lcomp, Leqlc, Lexcmp, Link, Linkor, Load, Locapt, Locapv, Locsp, Lvalue, Maknod, Mnreal, Mnsint, Mova, Movblk, Movd, Movdic, Movv, Mpreal, Mstime, Mult, Multc, Ordvst, Output, Plugtb, Pop, Proc, Pstack, Push, Putac, Putd, Putdc, Putlg, Putspc, Putvc, Rcall, Rcomp, Realst, Remsp, Resetf, Rewind, Rlint, Rplace, Rrturn, Rsetfi, Sbreal, Selbra, Setac, Setav, Setf, Setfi, Setlc, Setsiz, Setsp, Setva, Setvc, Shortn, Spcint, Spop, Spreal, Spush, Stream, Subsp, Subtrt, Sum, Testf, Testfi, Top, Trimsp, Unload, Varid, Vcmpic, Veql, Veqlc}
use Rattle.sil_model.specs.UnitMacros.{calls_unit}
use Rattle.string_clauses.specs.StringTable.{is_of_string}
use Rattle.table_clauses.specs.SyntaxTable.{is_of_table}
use Rattle.tree_clauses.specs.TreeTable.{is_of_tree}
use Rattle.sil_runs.specs.Table.{clause}
use Rattle.sil_machine.specs.MachineParts.{state_of}
use Rattle.sil_machine.proofs.dispatch.perform_alone.Goals as goal

-- no other macro has a clause
pub returns-in_default : goal.returns-in_default
unfolding clause
returns-in_default c k tapes = go c.args.name refl c.requires.alone (sym c.is_walk.ensures ∙ c.if-is_walk.false)
  where
    go : (n : Macro) → c.args.name ≡ n → calls_unit n ≡ false → (is_of_string n || is_of_tree n || is_of_table n) ≡ false → clause n c.args.site.now (state_of k c.args.steps c.args.parts.now tapes) ≡ None
    go Acomp e h w = absurd (c.in_default.not-Acomp e)
    go Acompc e h w = absurd (c.in_default.not-Acompc e)
    go Addlg e h w = absurd (c.in_default.not-Addlg e)
    go Addsib e h w = cc
    go Addson e h w = cc
    go Adjust e h w = absurd (c.in_default.not-Adjust e)
    go Adreal e h w = absurd (c.in_default.not-Adreal e)
    go Aeql e h w = absurd (c.in_default.not-Aeql e)
    go Aeqlc e h w = absurd (c.in_default.not-Aeqlc e)
    go Aeqlic e h w = absurd (c.in_default.not-Aeqlic e)
    go Apdsp e h w = cc
    go Bksize e h w = absurd (c.in_default.not-Bksize e)
    go Bkspce e h w = cc
    go Branch e h w = absurd (c.in_default.not-Branch e)
    go Branic e h w = absurd (c.in_default.not-Branic e)
    go Chkval e h w = absurd (c.in_default.not-Chkval e)
    go Clertb e h w = cc
    go Cpypat e h w = cc
    go Date e h w = cc
    go Decra e h w = absurd (c.in_default.not-Decra e)
    go Deql e h w = absurd (c.in_default.not-Deql e)
    go Divide e h w = absurd (c.in_default.not-Divide e)
    go Dvreal e h w = absurd (c.in_default.not-Dvreal e)
    go Endex e h w = absurd (c.in_default.not-Endex e)
    go Enfile e h w = cc
    go Expint e h w = cc
    go Exreal e h w = absurd (c.in_default.not-Exreal e)
    go Fshrtn e h w = absurd (c.in_default.not-Fshrtn e)
    go Getac e h w = absurd (c.in_default.not-Getac e)
    go Getbal e h w = cc
    go Getd e h w = absurd (c.in_default.not-Getd e)
    go Getdc e h w = absurd (c.in_default.not-Getdc e)
    go Getlg e h w = absurd (c.in_default.not-Getlg e)
    go Getlth e h w = absurd (c.in_default.not-Getlth e)
    go Getsiz e h w = absurd (c.in_default.not-Getsiz e)
    go Getspc e h w = absurd (c.in_default.not-Getspc e)
    go Incra e h w = absurd (c.in_default.not-Incra e)
    go Incrv e h w = absurd (c.in_default.not-Incrv e)
    go Init e h w = absurd (c.in_default.not-Init e)
    go Insert e h w = cc
    go Intrl e h w = absurd (c.in_default.not-Intrl e)
    go Intspc e h w = cc
    go Istack e h w = absurd (c.in_default.not-Istack e)
    go Lcomp e h w = absurd (c.in_default.not-Lcomp e)
    go Leqlc e h w = absurd (c.in_default.not-Leqlc e)
    go Lexcmp e h w = cc
    go Link e h w = absurd (c.in_default.not-Link e)
    go Linkor e h w = cc
    go Load e h w = absurd (c.in_default.not-Load e)
    go Locapt e h w = cc
    go Locapv e h w = cc
    go Locsp e h w = absurd (c.in_default.not-Locsp e)
    go Lvalue e h w = cc
    go Maknod e h w = cc
    go Mnreal e h w = absurd (c.in_default.not-Mnreal e)
    go Mnsint e h w = absurd (c.in_default.not-Mnsint e)
    go Mova e h w = absurd (c.in_default.not-Mova e)
    go Movblk e h w = cc
    go Movd e h w = absurd (c.in_default.not-Movd e)
    go Movdic e h w = absurd (c.in_default.not-Movdic e)
    go Movv e h w = absurd (c.in_default.not-Movv e)
    go Mpreal e h w = absurd (c.in_default.not-Mpreal e)
    go Mstime e h w = absurd (c.in_default.not-Mstime e)
    go Mult e h w = absurd (c.in_default.not-Mult e)
    go Multc e h w = absurd (c.in_default.not-Multc e)
    go Ordvst e h w = absurd (c.in_default.not-Ordvst e)
    go Output e h w = cc
    go Plugtb e h w = cc
    go Pop e h w = absurd (c.in_default.not-Pop e)
    go Proc e h w = absurd (c.in_default.not-Proc e)
    go Pstack e h w = absurd (c.in_default.not-Pstack e)
    go Push e h w = absurd (c.in_default.not-Push e)
    go Putac e h w = absurd (c.in_default.not-Putac e)
    go Putd e h w = absurd (c.in_default.not-Putd e)
    go Putdc e h w = absurd (c.in_default.not-Putdc e)
    go Putlg e h w = absurd (c.in_default.not-Putlg e)
    go Putspc e h w = absurd (c.in_default.not-Putspc e)
    go Putvc e h w = absurd (c.in_default.not-Putvc e)
    go Rcall e h w = absurd (c.in_default.not-Rcall e)
    go Rcomp e h w = absurd (c.in_default.not-Rcomp e)
    go Realst e h w = absurd (c.in_default.not-Realst e)
    go Remsp e h w = absurd (c.in_default.not-Remsp e)
    go Resetf e h w = absurd (c.in_default.not-Resetf e)
    go Rewind e h w = cc
    go Rlint e h w = absurd (c.in_default.not-Rlint e)
    go Rplace e h w = cc
    go Rrturn e h w = absurd (c.in_default.not-Rrturn e)
    go Rsetfi e h w = absurd (c.in_default.not-Rsetfi e)
    go Sbreal e h w = absurd (c.in_default.not-Sbreal e)
    go Selbra e h w = absurd (c.in_default.not-Selbra e)
    go Setac e h w = absurd (c.in_default.not-Setac e)
    go Setav e h w = absurd (c.in_default.not-Setav e)
    go Setf e h w = absurd (c.in_default.not-Setf e)
    go Setfi e h w = absurd (c.in_default.not-Setfi e)
    go Setlc e h w = absurd (c.in_default.not-Setlc e)
    go Setsiz e h w = absurd (c.in_default.not-Setsiz e)
    go Setsp e h w = absurd (c.in_default.not-Setsp e)
    go Setva e h w = absurd (c.in_default.not-Setva e)
    go Setvc e h w = absurd (c.in_default.not-Setvc e)
    go Shortn e h w = absurd (c.in_default.not-Shortn e)
    go Spcint e h w = cc
    go Spop e h w = absurd (c.in_default.not-Spop e)
    go Spreal e h w = absurd (c.in_default.not-Spreal e)
    go Spush e h w = absurd (c.in_default.not-Spush e)
    go Stream e h w = cc
    go Subsp e h w = absurd (c.in_default.not-Subsp e)
    go Subtrt e h w = absurd (c.in_default.not-Subtrt e)
    go Sum e h w = absurd (c.in_default.not-Sum e)
    go Testf e h w = absurd (c.in_default.not-Testf e)
    go Testfi e h w = absurd (c.in_default.not-Testfi e)
    go Top e h w = cc
    go Trimsp e h w = cc
    go Unload e h w = absurd (c.in_default.not-Unload e)
    go Varid e h w = cc
    go Vcmpic e h w = absurd (c.in_default.not-Vcmpic e)
    go Veql e h w = absurd (c.in_default.not-Veql e)
    go Veqlc e h w = absurd (c.in_default.not-Veqlc e)
    go _ e h w = refl
