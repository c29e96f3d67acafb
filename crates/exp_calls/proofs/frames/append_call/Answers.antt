use Rattle.std.proofs.Common.{arith}
use Rattle.exp_common.proofs.JoinedParts.{grows_then}
use Rattle.exp_calls.proofs.frames.append_call.Goals as goal

pub returns : goal.returns
returns c = record {
  grown = grows_then _ _ _ _ _ c.in_ok-append_up.ensures.grown (grows_then _ _ _ _ _ c.in_ok-append_guard.ensures.grown (grows_then _ _ _ _ _ c.in_ok-append_places.ensures.grown (grows_then _ _ _ _ _ c.in_ok-append_line.ensures.grown (grows_then _ _ _ _ _ c.in_ok-append_frame.ensures.grown (grows_then _ _ _ _ _ c.in_ok-append_gather.ensures.grown (grows_then _ _ _ _ _ c.in_ok-append_scatter.ensures.grown c.in_ok-append_enter.ensures.grown))))));
  count = omega (arith, c.requires.few, c.in_ok-append_up.ensures.count, c.in_ok-append_guard.ensures.count, c.in_ok-append_places.ensures.count, c.in_ok-append_line.ensures.count, c.in_ok-append_frame.ensures.count, c.in_ok-append_gather.ensures.count, c.in_ok-append_scatter.ensures.count, c.in_ok-append_enter.ensures.count);
}
