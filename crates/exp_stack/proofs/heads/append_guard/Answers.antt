use Rattle.exp_stack.specs.ListParts.{guard_code}
use Rattle.exp_stack.proofs.heads.append_guard.Goals as goal

pub returns-in_ok-append-in-None-clause-grown : goal.returns-in_ok-append-in-None-clause-grown
unfolding guard_code
returns-in_ok-append-in-None-clause-grown c = rw c.in-None.is c.in_ok-append-in-None.ensures.appends

pub returns-in_ok-append-in-Some-clause-grown : goal.returns-in_ok-append-in-Some-clause-grown
unfolding guard_code
returns-in_ok-append-in-Some-clause-grown c = rw c.in-Some.is c.in_ok-append-in-Some.ensures.appends
