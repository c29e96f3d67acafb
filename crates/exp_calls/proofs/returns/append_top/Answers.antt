use Rattle.exp_calls.specs.ReturnParts.{top_code}
use Rattle.exp_calls.proofs.returns.append_top.Goals as goal

pub returns-clause-grown : goal.returns-clause-grown
unfolding top_code
returns-clause-grown c = c.in_ok-append.ensures.appends
