use Rattle.std.proofs.Common.{Some}
use Rattle.unit_io.proofs.Places.{with_unit-map}
use Rattle.unit_io.proofs.units.Units+Box+dyn+Unit.attach.Goals as goal

pub returns-clause-seen : goal.returns-clause-seen
returns-clause-seen g c = rw c.attach.ensures.after (with_unit-map _ _ c.args.n (Some c.args.unit))
