use Rattle.std.proofs.Common.{◌+◌, ◌<◌, length, arith, ◌∙◌}
use Rattle.std.proofs.lemmas.List.{drop-set-lt}
use Rattle.unit_io.proofs.Finishes.{finishes-push, same_drop, seen-more, seen-more_set}
use Rattle.unit_io.proofs.slots.finish_all.Goals as goal

pub loop-slot-preserved : goal.loop-slot-preserved
loop-slot-preserved g c =
    let i = c.loop-slot.slot-index in
    let now : i < length c.loop-slot.slots = omega arith in
    let first : i < length c.args.slots.now = omega arith in
    let here = same_drop c.loop-slot.slots c.args.slots.now i c.slot-item.result now first c.loop-slot.invariant.rest in
    record {
      finished = rw (seen-more _ _ c.args.slots.now i c.slot-item.result first, seen-more_set _ _ c.loop-slot.slots i c.finish_slot-failed.new.slot now, ← here.0) (finishes-push _ _ _ _ _ _ c.loop-slot.invariant.finished c.finish_slot-failed.ensures.finished);
      rest = drop-set-lt (i + 1) c.loop-slot.slots i c.finish_slot-failed.new.slot (omega arith) ∙ here.1;
      few = omega (arith, c.finish_slot-failed.ensures.few);
    }
