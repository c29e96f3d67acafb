-- The laws of the macros of syntax tables.
use Rattle.std.proofs.Common.{◌≡◌, ℕ, refl, arith}
use Rattle.sil_macros.specs.declared.names.Macro.{Macro}
use Rattle.sil_macros.specs.declared.names.Macro.TheVariants.{Clertb, Plugtb, Stream}
use Rattle.sil_model.specs.Effects.{Effect}
use Rattle.sil_model.specs.Fits.{bounds_of}
use Rattle.sil_model.specs.Sites.{Site}
use Rattle.sil_model.specs.States.{State}
use Rattle.sil_model.specs.UnitMacros.{KeepsTapes}
use Rattle.sil_model.proofs.Lawful.{HasBoundedVisits, IsLawful, few_lawful}
use Rattle.sil_model.proofs.Leaves.{IsHere, Leaves, memory_leaves}
use Rattle.sil_model.proofs.TapesKept.{tapes_memory}
use Rattle.table_clauses.specs.SyntaxClauses.{TableEffect, clertb, plugtb, stream, with_tables}
use Rattle.table_clauses.specs.SyntaxTable.{table_clause, table_visits}
use Rattle.table_clauses.proofs.StreamsKept.{stream_keeps}
use Rattle.table_clauses.proofs.SyntaxVisits.{plugtb_few, stream_few}
use Rattle.table_clauses.proofs.TablesKept.{KeepsTables, clertb_keeps, plugtb_keeps, sound_tables, tables_alone, tables_leave}
use Rattle.std.proofs.Common.{length}

-- a clause on tables
changes_lawful : {clause : Site → State → Effect} {visits : Site → State → ℕ} (name : Macro) (f : Site → State → TableEffect) → ((site : Site) (s : State) → clause site s ≡ with_tables s (f site s)) →
    ((site : Site) (s : State) → IsHere site s → KeepsTables (length site.program.statements) (length site.program.tables) (f site s)) → HasBoundedVisits visits → IsLawful name clause visits
changes_lawful name f is keeps bounded = record {
  leaves = λ site s legal h. rw (is site s) (tables_leave site.program site.parameters.settings s (f site s) h.sound (keeps site s h));
  alone = λ site s calls. rw (is site s) (tables_alone s (f site s));
  bounded = bounded;
}

pub table_lawful : (name : Macro) → IsLawful name (table_clause name) (table_visits name)
unfolding table_clause Leaves KeepsTapes
table_lawful Clertb = changes_lawful Clertb (λ site s. clertb site.args s.tables) (λ site s. refl)
    (λ site s h. clertb_keeps (bounds_of site.program site.parameters.settings) site.args s.tables h.args (sound_tables site.program site.parameters.settings s h.sound)) (λ site s few h. omega arith)
table_lawful Plugtb = changes_lawful Plugtb (λ site s. plugtb site.args s.memory s.tables) (λ site s. refl)
    (λ site s h. plugtb_keeps (bounds_of site.program site.parameters.settings) site.args s.memory s.tables h.args (sound_tables site.program site.parameters.settings s h.sound))
    (λ site s few h. omega (arith, plugtb_few s.tables site.args s.memory h.sound.memory))
table_lawful Stream = record {
  leaves = λ site s legal h. memory_leaves site.program site.parameters.settings s _ h.sound (stream_keeps (bounds_of site.program site.parameters.settings) site.program.specials.stype s.tables site.args s.memory h.args (sound_tables site.program site.parameters.settings s h.sound) h.sound.memory);
  alone = λ site s calls. tapes_memory s (stream site.program.specials.stype s.tables site.args s.memory);
  bounded = λ site s few h. omega (arith, stream_few s.tables site.args s.memory h.sound.memory);
}
table_lawful name = few_lawful name (λ site s h. tt) (λ site s h. tt) (λ site s h. omega arith)
