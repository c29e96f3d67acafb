use Rattle.std.proofs.Common.{◌∙◌, sym, ◌≡◌, ◌<◌, ◌^◌, ◌*◌, ◌%◌, arith}
use Rattle.std.proofs.Math.Pow.{pow-lt}
use Rattle.layout_params.proofs.FaultLemmas.{bit_below}
use Rattle.layout_params.proofs.faults.is_bit_below.Goals as goal

pub returns-then-flag-bit : goal.returns-then-flag-bit
returns-then-flag-bit c =
    let n : c.args.flag ≡ (1 * 2 ^ c.loop-bit.bit) % 18446744073709551616 = c.if-flag-bit.true in
    let low : 2 ^ c.loop-bit.bit < 2 ^ 64 = pow-lt {i = c.loop-bit.bit} {j = 64} (omega arith) in
    let same : (1 * 2 ^ c.loop-bit.bit) % 18446744073709551616 ≡ 2 ^ c.loop-bit.bit = omega arith in
    sym (bit_below c.args.bits c.loop-bit.bit c.args.flag c.loop-bit-test.true (n ∙ same))
