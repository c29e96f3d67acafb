-- The macros that call a unit, and effects that keep the tapes.
use Rattle.std.specs.Prelude.{Bool, true, false, ◌≡◌, Some, None}
use Rattle.unit_io.specs.Tapes.{Tapes}
use Rattle.sil_macros.specs.declared.names.Macro.{Macro}
use Rattle.sil_macros.specs.declared.names.Macro.TheVariants.{Bkspce, Enfile, Output, Rewind, Stprnt, Stread}
use Rattle.sil_model.specs.Effects.{Effect, On}

-- the macros that call a unit
abbrev pub calls_unit : Macro → Bool
calls_unit Bkspce = true
calls_unit Enfile = true
calls_unit Output = true
calls_unit Rewind = true
calls_unit Stprnt = true
calls_unit Stread = true
calls_unit _ = false

-- the effect is told, and leaves these tapes
unfoldable pub KeepsTapes : Tapes → Effect → Type 0
KeepsTapes tapes None = Unit {0}
KeepsTapes tapes (Some (On flow, t)) = t.tapes ≡ tapes
KeepsTapes tapes (Some (_, t)) = ⊥
