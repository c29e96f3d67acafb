use Rattle.exp_calls.specs.ReturnParts.{frame_read_code}
use Rattle.exp_calls.proofs.returns.append_frame_read.Goals as goal

pub returns-clause-grown : goal.returns-clause-grown
unfolding frame_read_code
returns-clause-grown c = c.in_ok-append.ensures.appends
