-- The table of the macros that call a unit: their clauses, and the visits that these make.
use Rattle.std.specs.Prelude.{ℕ, ◌+◌, Bool, true, false}
use Rattle.sil_macros.specs.declared.names.Macro.{Macro}
use Rattle.sil_macros.specs.declared.names.Macro.TheVariants.{Bkspce, Enfile, Output, Rewind}
use Rattle.sil_model.specs.Effects.{Effect, no_clause}
use Rattle.sil_model.specs.Sites.{Site}
use Rattle.sil_model.specs.States.{State}
use Rattle.sil_model.specs.Arguments.{maybe_places_at}
use Rattle.sil_model.specs.OperandCounts.{listed}
use Rattle.unit_clauses.specs.UnitClauses.{bkspce, enfile, output, rewind}

-- whether a macro is one of these
abbrev pub is_of_unit : Macro → Bool
is_of_unit Bkspce = true
is_of_unit Enfile = true
is_of_unit Output = true
is_of_unit Rewind = true
is_of_unit _ = false

unfoldable pub unit_clause : Macro → Site → State → Effect
unit_clause Bkspce = bkspce
unit_clause Enfile = enfile
unit_clause Output = output
unit_clause Rewind = rewind
unit_clause _ = no_clause

-- the visits that a clause makes to cells, characters, table entries and links
abbrev pub unit_visits : Macro → Site → State → ℕ
unit_visits Bkspce site s = 1
unit_visits Enfile site s = 1
unit_visits Output site s = 1 + listed (maybe_places_at site.args 2)
unit_visits Rewind site s = 1
unit_visits _ site s = 0
