-- The laws of the macros of records.
use Rattle.std.proofs.Common.{arith}
use Rattle.sil_macros.specs.declared.names.Macro.{Macro}
use Rattle.sil_macros.specs.declared.names.Macro.TheVariants.{Stprnt, Stread}
use Rattle.sil_model.specs.UnitMacros.{KeepsTapes}
use Rattle.sil_model.proofs.Lawful.{IsLawful, few_lawful}
use Rattle.sil_model.proofs.Leaves.{Leaves}
use Rattle.record_clauses.specs.RecordTable.{record_clause, record_visits}
use Rattle.record_clauses.proofs.RecordKeeps.{stprnt_leaves, stread_leaves}
use Rattle.record_clauses.proofs.RecordVisits.{stprnt_few, stread_few}

pub record_lawful : (name : Macro) → IsLawful name (record_clause name) (record_visits name)
unfolding record_clause Leaves KeepsTapes
record_lawful Stprnt = record {
  leaves = λ site s legal h. stprnt_leaves site s h;
  alone = λ site s h. cc;
  bounded = λ site s few h. omega (arith, stprnt_few site.args s.memory h.sound.memory);
}
record_lawful Stread = record {
  leaves = λ site s legal h. stread_leaves site s h;
  alone = λ site s h. cc;
  bounded = λ site s few h. omega (arith, stread_few site.args s.memory h.sound.memory);
}
record_lawful name = few_lawful name (λ site s h. tt) (λ site s h. tt) (λ site s h. omega arith)
