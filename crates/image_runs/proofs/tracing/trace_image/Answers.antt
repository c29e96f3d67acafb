use Rattle.image_runs.proofs.Emulated.{in-state}
use Rattle.image_runs.proofs.Following.{traced-so}
use Rattle.std.proofs.Common.{[]}
use Rattle.image_runs.proofs.tracing.trace_image.Goals as goal

pub follow-requires-clause-begins : goal.follow-requires-clause-begins
follow-requires-clause-begins g c = (in-state _ _ _ (c.in_ok-cpu.ensures.start [])).0

pub returns-clause-traced : goal.returns-clause-traced
returns-clause-traced g c = (
  c.follow.ensures.0,
  traced-so c.args.image.now c.args.n _ c.follow.result.end c.in_ok-cpu.cpu c.follow.ensures.0 _ _ c.budget.ensures (c.in_ok-cpu.ensures.start _) c.follow.ensures.1,
  c.follow.ensures.2,
)
