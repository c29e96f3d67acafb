use Rattle.exp_calls.specs.CallParts.{enter_code}
use Rattle.exp_calls.proofs.frames.append_enter.Goals as goal

pub returns-clause-grown : goal.returns-clause-grown
unfolding enter_code
returns-clause-grown c = c.in_ok-append.ensures.appends
