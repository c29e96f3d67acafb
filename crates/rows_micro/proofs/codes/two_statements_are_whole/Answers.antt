use Rattle.std.proofs.Common.{refl, lit≤}
use Rattle.rows_micro.proofs.Whole.{entered, rising, beginning, no_return}
use Rattle.rows_micro.proofs.codes.two_statements_are_whole.Goals as goal

pub returns : goal.returns
returns c = record { few = lit≤ tt; entries = entered; rise = rising; begins = beginning; returns = no_return; jumps = refl; names = refl; light = lit≤ tt }
