use Rattle.std.proofs.Common.{refl}
use Rattle.unit_io.specs.Units.{tapes_of}
use Rattle.sil_runs.specs.Machine.{make_step}
use Rattle.sil_machine.proofs.Meeting.{makes}
use Rattle.sil_machine.proofs.state.make_step.Goals as goal

pub returns-clause-steps : goal.returns-clause-steps
unfolding make_step
returns-clause-steps g c =
    makes _ _ _ _ c.perform-went.result c.finish.result (rw c.of-site.ensures at (c.perform-went.ensures.meets c.args.at.now.statement)) refl refl c.finish.ensures.memory
    (λ memory. c.finish.ensures.settles memory (tapes_of (g.U.UnitSet.seen c.perform-went.new.units)))
