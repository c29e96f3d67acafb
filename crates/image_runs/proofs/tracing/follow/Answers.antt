use Rattle.std.proofs.Common.{◌+◌, arith}
use Rattle.unit_io.specs.Units.{tapes_of}
use Rattle.command_report.proofs.Noting.{noted-alone, notes-none, notes-then}
use Rattle.image_runs.proofs.Following.{follows-none, follows-next, follows-end, follows-out}
use Rattle.image_runs.proofs.tracing.follow.Goals as goal

pub loop-turn-init : goal.loop-turn-init
loop-turn-init g c = (_, follows-none _ _ _ c.requires.image c.requires.begins, notes-none _ _ _)

pub loop-turn-preserved : goal.loop-turn-preserved
loop-turn-preserved g c = (
  _,
  follows-next c.loop-turn.invariant.1 c.step.result (record {
    makes = c.step.ensures.stands c.args.image.now c.loop-turn.invariant.1.same;
    answer = c.step.ensures.answer;
    same = c.step.ensures.image;
    units = c.step.ensures.units;
    failed = c.step.ensures.failed;
    faults = c.step.ensures.faults;
  }) c.in-Next.is,
  notes-then _ _ _ _ _ _ _ _ _ _ _ c.loop-turn.invariant.2 (c.note_met-put.ensures (tapes_of (g.U.UnitSet.seen c.loop-turn.units))),
)

pub returns-in-Ended : goal.returns-in-Ended
returns-in-Ended g c = (
  _,
  follows-end c.loop-turn.invariant.1 c.step.result (record {
    makes = c.step.ensures.stands c.args.image.now c.loop-turn.invariant.1.same;
    answer = c.step.ensures.answer;
    same = c.step.ensures.image;
    units = c.step.ensures.units;
    failed = c.step.ensures.failed;
    faults = c.step.ensures.faults;
  }) c.in-Ended.end c.args.budget c.loop-turn-test.true c.in-Ended.is,
  noted-alone _ _ _ _ _ _ (notes-then _ _ _ _ _ _ _ _ _ _ _ c.loop-turn.invariant.2 (c.note_met-put.ensures (tapes_of (g.U.UnitSet.seen c.loop-turn.units)))),
)

pub returns : goal.returns
returns g c = (
  c.loop-turn.invariant.0,
  follows-out _ c.loop-turn.turn _ _ _ _ _ _ (omega (arith, c.loop-turn-test.false, c.loop-turn.auto.turn-end)) c.loop-turn.invariant.1,
  noted-alone _ _ _ _ _ _ c.loop-turn.invariant.2,
)
