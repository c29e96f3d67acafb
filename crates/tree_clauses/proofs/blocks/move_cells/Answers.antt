use Rattle.std.proofs.Common.{ap, arith, rules}
use Rattle.std.proofs.lemmas.Int.{to_z-of_z}
use Rattle.sil_model.specs.Access.{◌>>=◌}
use Rattle.tree_clauses.specs.PatternClauses.{moved_memory}
use Rattle.tree_clauses.proofs.LoopLaws.{each_more, each_past, each_stops}
use Rattle.tree_clauses.proofs.blocks.move_cells.Goals as goal
use mir.Val.{SFits}
use mir.Syntax.{w64}

pub returns-in_err-offset : goal.returns-in_err-offset
returns-in_err-offset c =
    let f_to : SFits w64 c.args.to = c.ranges.to in
    let f_from : SFits w64 c.args.from = c.ranges.from in
    let turn = simp to_z-of_z at c.in_err-offset.ensures.moves in
    let left = simp to_z-of_z at c.loop-i.invariant.left in
    let none = each_stops _ _ _ _ _ (omega (arith, c.loop-i-test.true)) left turn in
    rw c.from_residual.ensures (ap (λ o. o >>= moved_memory) none)

pub loop-i-preserved : goal.loop-i-preserved
loop-i-preserved c =
    let f_to : SFits w64 c.args.to = c.ranges.to in
    let f_from : SFits w64 c.args.from = c.ranges.from in
    let f_offset : SFits w64 c.in_ok-offset.offset = search rules in
    let turn = simp to_z-of_z at c.in_ok-offset.ensures.moves in
    let left = simp to_z-of_z at c.loop-i.invariant.left in
    simp to_z-of_z (record { left = each_more _ _ _ _ _ _ (omega (arith, c.loop-i-test.true)) left turn })

pub returns : goal.returns
returns c =
    let f_to : SFits w64 c.args.to = c.ranges.to in
    let f_from : SFits w64 c.args.from = c.ranges.from in
    let left = simp to_z-of_z at c.loop-i.invariant.left in
    ap (λ o. o >>= moved_memory) (each_past _ _ _ _ _ (omega (arith, c.loop-i-test.false)) left)
