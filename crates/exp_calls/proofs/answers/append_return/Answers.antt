use Rattle.exp_common.proofs.JoinedParts.{grows_then}
use Rattle.exp_calls.proofs.answers.append_return.Goals as goal

pub returns : goal.returns
returns c = record { grown = grows_then _ _ _ _ _ c.in_ok-append_given.ensures.grown c.in_ok-append_located.ensures.grown }
