use Rattle.rv_operations.proofs.UnitCases.{calls_units}
use Rattle.rv_operations.proofs.laws.law_of_units.Goals as goal

pub returns : goal.returns
returns c = calls_units
