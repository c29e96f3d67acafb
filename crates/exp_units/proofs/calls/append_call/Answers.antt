use Rattle.std.proofs.Common.{refl}
use Rattle.exp_units.specs.UnitParts.{call_code}
use Rattle.exp_units.proofs.calls.append_call.Goals as goal

pub append-requires-clause-part : goal.append-requires-clause-part
append-requires-clause-part c = simp c.requires.call refl

pub returns : goal.returns
unfolding call_code
returns c = c.in_ok-append.ensures.appends
