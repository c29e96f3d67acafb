use Rattle.std.proofs.Common.{◌≡◌, false}
use Rattle.layout_params.specs.Parameters.{is_bit_below}
use Rattle.layout_params.proofs.faults.is_bit_below.Given as goal

-- no bit so far
abbrev pub invariant-loop-bit : goal.invariant-loop-bit
invariant-loop-bit l = is_bit_below l.bit l.flag ≡ false
