use Rattle.std.proofs.Common.{sym}
use Rattle.sil_machine.proofs.UnitMeeting.{rewind_meets}
use Rattle.sil_machine.proofs.units.rewind.Goals as goal

pub returns-in-Some-clause-meets : goal.returns-in-Some-clause-meets
returns-in-Some-clause-meets g c k steps = rewind_meets c.args.site.now _ c.in-Some.unit _ _ _ (sym c.in-Some.ensures) c.rewind.ensures.tapes c.went_by.ensures.goes
