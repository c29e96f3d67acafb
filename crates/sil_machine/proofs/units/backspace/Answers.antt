use Rattle.std.proofs.Common.{sym}
use Rattle.sil_machine.proofs.UnitMeeting.{bkspce_meets}
use Rattle.sil_machine.proofs.units.backspace.Goals as goal

pub returns-in-Some-clause-meets : goal.returns-in-Some-clause-meets
returns-in-Some-clause-meets g c k steps = bkspce_meets c.args.site.now _ c.in-Some.unit _ _ _ (sym c.in-Some.ensures) c.backspace.ensures.tapes c.went_by.ensures.goes
