use Rattle.std.proofs.Common.{sym}
use Rattle.sil_machine.specs.UnitStatements.{print_seen}
use Rattle.sil_machine.proofs.UnitMeeting.{output_cut, output_meets}
use Rattle.sil_machine.proofs.units.output.Goals as goal

pub returns-in-Some-clause-meets : goal.returns-in-Some-clause-meets
returns-in-Some-clause-meets g c k steps = output_meets c.args.site.now _ (print_seen c.in-Some.p) _ _ _ (sym c.in-Some.ensures.value) c.print.ensures.tapes c.printed_to.ensures.goes

pub returns-in-Some-clause-cut : goal.returns-in-Some-clause-cut
returns-in-Some-clause-cut g c memory = output_cut c.args.site.now c.args.parts.now.cells (print_seen c.in-Some.p) _ _ _ (sym c.in-Some.ensures.value) c.print.ensures.tapes (c.printed_to.ensures.memory memory)
