use Rattle.exp_common.proofs.JoinedParts.{grows_then}
use Rattle.exp_stack.proofs.specifiers.append_spec_moves.Goals as goal

pub returns : goal.returns
returns c = record { grown = grows_then _ _ _ _ _ c.in_ok-append_spec_gather.ensures.grown (grows_then _ _ _ _ _ c.in_ok-append_spec_scatter.ensures.grown c.in_ok-append.ensures.appends) }
