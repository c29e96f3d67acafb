use Rattle.std.proofs.Common.{sym}
use Rattle.sil_machine.proofs.UnitMeeting.{enfile_meets}
use Rattle.sil_machine.proofs.units.endfile.Goals as goal

pub returns-in-Some-clause-meets : goal.returns-in-Some-clause-meets
returns-in-Some-clause-meets g c k steps = enfile_meets c.args.site.now _ c.in-Some.unit _ _ _ (sym c.in-Some.ensures) c.endfile.ensures.tapes c.went_by.ensures.goes
