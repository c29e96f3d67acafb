use Rattle.exp_common.proofs.JoinedParts.{grows_then}
use Rattle.exp_stack.proofs.moves.append_moves.Goals as goal

pub returns : goal.returns
returns c = record { grown = grows_then _ _ _ _ _ c.in_ok-append_gather.ensures.grown (grows_then _ _ _ _ _ c.in_ok-append_scatter.ensures.grown c.in_ok-append.ensures.appends) }
