-- The steps that effects on memory and on tables make.
use Rattle.sil_model.specs.Effects.{MemoryEffect, with_memory}
use Rattle.sil_model.specs.Settling.{settle}
use Rattle.sil_model.specs.States.{State, Step}
use Rattle.table_clauses.specs.SyntaxClauses.{TableEffect, with_tables}

abbrev pub after_memory : State → MemoryEffect → Step
after_memory before effect = settle before (with_memory before effect)

abbrev pub after_change : State → TableEffect → Step
after_change before effect = settle before (with_tables before effect)
