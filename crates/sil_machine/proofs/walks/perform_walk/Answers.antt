use Rattle.std.proofs.Common.{◌≡◌, ◌||◌, None, refl, true}
use Rattle.sil_macros.specs.declared.names.Macro.{Macro}
use Rattle.sil_macros.specs.declared.names.Macro.TheVariants.{Addsib, Addson, Apdsp, Clertb, Cpypat, Date, Expint, Getbal, Insert, Intspc, Lexcmp, Linkor, Locapt, Locapv, Lvalue, Maknod, Movblk, Plugtb, Rplace, Spcint, Stream, Top, Trimsp, Varid}
use Rattle.string_clauses.specs.StringTable.{is_of_string}
use Rattle.table_clauses.specs.SyntaxTable.{is_of_table}
use Rattle.tree_clauses.specs.TreeTable.{is_of_tree}
use Rattle.sil_runs.specs.Table.{clause}
use Rattle.sil_machine.specs.MachineParts.{state_of}
use Rattle.sil_machine.proofs.walks.perform_walk.Goals as goal

-- these are all of these groups
pub returns-in_default : goal.returns-in_default
returns-in_default c k steps tapes = go c.args.name refl c.requires
  where
    go : (n : Macro) → c.args.name ≡ n → (is_of_string n || is_of_tree n || is_of_table n) ≡ true → clause n c.args.site.now (state_of k steps c.args.parts.now tapes) ≡ None
    go Addsib e h = absurd (c.in_default.not-Addsib e)
    go Addson e h = absurd (c.in_default.not-Addson e)
    go Apdsp e h = absurd (c.in_default.not-Apdsp e)
    go Clertb e h = absurd (c.in_default.not-Clertb e)
    go Cpypat e h = absurd (c.in_default.not-Cpypat e)
    go Date e h = absurd (c.in_default.not-Date e)
    go Expint e h = absurd (c.in_default.not-Expint e)
    go Getbal e h = absurd (c.in_default.not-Getbal e)
    go Insert e h = absurd (c.in_default.not-Insert e)
    go Intspc e h = absurd (c.in_default.not-Intspc e)
    go Lexcmp e h = absurd (c.in_default.not-Lexcmp e)
    go Linkor e h = absurd (c.in_default.not-Linkor e)
    go Locapt e h = absurd (c.in_default.not-Locapt e)
    go Locapv e h = absurd (c.in_default.not-Locapv e)
    go Lvalue e h = absurd (c.in_default.not-Lvalue e)
    go Maknod e h = absurd (c.in_default.not-Maknod e)
    go Movblk e h = absurd (c.in_default.not-Movblk e)
    go Plugtb e h = absurd (c.in_default.not-Plugtb e)
    go Rplace e h = absurd (c.in_default.not-Rplace e)
    go Spcint e h = absurd (c.in_default.not-Spcint e)
    go Stream e h = absurd (c.in_default.not-Stream e)
    go Top e h = absurd (c.in_default.not-Top e)
    go Trimsp e h = absurd (c.in_default.not-Trimsp e)
    go Varid e h = absurd (c.in_default.not-Varid e)
    go _ e h = cc
