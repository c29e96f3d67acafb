use Rattle.std.proofs.Common.{◌≡◌, ◌≤◌, take, drop}
use Rattle.unit_io.specs.Slots.{seen_by}
use Rattle.unit_io.specs.Units.{FinishesAll}
use Rattle.unit_io.proofs.slots.finish_all.Given as goal

abbrev pub invariant-loop-slot : goal.invariant-loop-slot
invariant-loop-slot g l =
    let seen = seen_by g.U.Unit.tape g.U.Unit.faults in
    record {
      finished : FinishesAll (seen (take l.slot-index l.initial.slots)) (seen (take l.slot-index l.slots)) l.failed;
      rest : drop l.slot-index l.slots ≡ drop l.slot-index l.initial.slots;
      few : l.failed ≤ l.slot-index;
    }
