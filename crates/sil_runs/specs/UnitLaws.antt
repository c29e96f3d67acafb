-- Laws of macros that call no unit.
use Rattle.std.specs.Prelude.{◌≡◌, false}
use Rattle.sil_macros.specs.declared.names.Macro.{Macro}
use Rattle.sil_model.specs.Sites.{Site}
use Rattle.sil_model.specs.States.{State}
use Rattle.sil_runs.specs.Table.{clause}
use Rattle.sil_model.specs.UnitMacros.{calls_unit, KeepsTapes}

-- a macro that calls no unit does so
abbrev pub LawOfUnits : Type 0
LawOfUnits = (name : Macro) (site : Site) (s : State) → calls_unit name ≡ false → KeepsTapes s.tapes (clause name site s)
