use Rattle.std.proofs.Common.{◌≡◌, ◌++◌}
use Rattle.rv_routines.specs.RoutineCodes.{zeros_code}
use Rattle.rv_routines.proofs.stores.append_zeros.Given as goal

abbrev pub invariant-loop-k : goal.invariant-loop-k
invariant-loop-k l = l.code.items ≡ l.fn.code.items ++ zeros_code 0 l.k
