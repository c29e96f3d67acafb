use Rattle.std.proofs.Common.{ap, length, ◌≤◌, ◌^◌, arith}
use Rattle.layout_params.proofs.PackingLemmas.{pow_at_most}
use Rattle.layout_params.proofs.packing.+number_in.Goals as goal

pub overflow_mul-result : goal.overflow_mul-result
overflow_mul-result t c =
    let most : 256 ^ length c.in-Some.rest.now ≤ 256 ^ 7 = pow_at_most (length c.in-Some.rest.now) 7 (omega (arith, ap length c.in-Some.ensures.cases.0)) in
    let range = c.number_in.ensures.range in
    omega arith

pub overflow_add-result : goal.overflow_add-result
overflow_add-result t c =
    let most : 256 ^ length c.in-Some.rest.now ≤ 256 ^ 7 = pow_at_most (length c.in-Some.rest.now) 7 (omega (arith, ap length c.in-Some.ensures.cases.0)) in
    let range = c.number_in.ensures.range in
    omega (arith, c.from.ensures)
