-- The laws of the macros that call a unit.
use Rattle.std.proofs.Common.{arith}
use Rattle.sil_macros.specs.declared.names.Macro.TheVariants.{Bkspce, Enfile, Output, Rewind}
use Rattle.sil_macros.specs.declared.names.Macro.{Macro}
use Rattle.sil_model.specs.UnitMacros.{KeepsTapes}
use Rattle.sil_model.proofs.Operands.{maybe_items_most}
use Rattle.sil_model.proofs.Lawful.{IsLawful, few_lawful}
use Rattle.sil_model.proofs.Leaves.{Leaves}
use Rattle.unit_clauses.specs.UnitTable.{unit_clause, unit_visits}
use Rattle.unit_clauses.proofs.UnitCallLaws.{bkspce_leaves, enfile_leaves, output_leaves, rewind_leaves}

pub unit_lawful : (name : Macro) → IsLawful name (unit_clause name) (unit_visits name)
unfolding unit_clause Leaves KeepsTapes
unit_lawful Bkspce = few_lawful Bkspce bkspce_leaves (λ site s h. cc) (λ site s h. omega arith)
unit_lawful Enfile = few_lawful Enfile enfile_leaves (λ site s h. cc) (λ site s h. omega arith)
unit_lawful Output = few_lawful Output output_leaves (λ site s h. cc) (λ site s h. omega (arith, maybe_items_most site.args 2))
unit_lawful Rewind = few_lawful Rewind rewind_leaves (λ site s h. cc) (λ site s h. omega arith)
unit_lawful name = few_lawful name (λ site s h. tt) (λ site s h. tt) (λ site s h. omega arith)
