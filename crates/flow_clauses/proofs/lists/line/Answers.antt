use Rattle.flow_clauses.proofs.lists.line.Goals as goal
use Rattle.std.proofs.Common.{ℕ, ℤ, refl, length-set, ap, arith, ◌∙◌, take, set, ◌++◌, ◌≡◌, ◌+◌, ◌-◌, ◌%◌, ◌^◌, ◌<◌}
use Rattle.sil_model.specs.Lists.{line}
use Rattle.std.proofs.lemmas.Int.{to_z-of_z, ints}
use Rattle.sil_model.specs.Integers.{wrapped_sum}
use Rattle.flow_clauses.proofs.Turns.{line_grow, line_end}
use mir.Val.{SFits, to_z, of_z}
use mir.Syntax.{w64}

minus_none : (n : ℕ) → n ≡ n - 0
minus_none n = omega arith

pub loop-i-init : goal.loop-i-init
loop-i-init c = record { size = refl; made = ap (λ n. line (to_z w64 (of_z w64 c.args.at)) (to_z w64 (of_z w64 c.args.step)) n) (minus_none c.args.count) }

wraps : (bits step : ℕ) → bits < 2 ^ 64 → step < 2 ^ 64 → wrapped_sum (to_z w64 bits) (to_z w64 step) ≡ to_z w64 ((bits + step) % 2 ^ 64)
unfolding wrapped_sum
wraps bits step h k = grind (arith, ints)

pub loop-i-preserved : goal.loop-i-preserved
loop-i-preserved c =
    let step = to_z w64 (of_z w64 c.args.step) in
    let left = c.args.count - (c.loop-i.i + 1) in
    let front = take (c.loop-i.i + 1) (set c.loop-i.places c.loop-i.i (to_z w64 c.loop-i.next-bits)) in
    let bits : of_z w64 c.args.step < 2 ^ 64 = omega (arith, ints) in
    record { size = omega (arith, length-set {A = ℤ}); made = line_grow _ _ _ _ _ _ c.loop-i-test.true (omega arith) c.loop-i.invariant.made ∙ ap (λ z. front ++ line z step left) (wraps c.loop-i.next-bits (of_z w64 c.args.step) (omega arith) bits) }

pub returns : goal.returns
returns c =
    let f_at : SFits w64 c.args.at = c.ranges.at in
    let f_step : SFits w64 c.args.step = c.ranges.step in
    let made = simp to_z-of_z at c.loop-i.invariant.made in
    line_end _ _ _ _ _ _ (omega arith) made
