-- A macro that calls no unit keeps the tapes, whatever they tell.
use Rattle.sil_runs.specs.UnitLaws.{LawOfUnits}
use Rattle.sil_runs.proofs.ClauseLaws.{lawful}

pub alone : LawOfUnits
alone name site s h = (lawful name).alone site s h
