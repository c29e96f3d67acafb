use Rattle.std.proofs.Common.{sym, arith, rules}
use Rattle.std.proofs.lemmas.Int.{to_z-of_z}
use Rattle.tree_clauses.proofs.LoopLaws.{walk_starts, walk_more, walk_found, walk_stops, walk_past}
use Rattle.tree_clauses.proofs.searches.find_title.Goals as goal
use mir.Val.{SFits}
use mir.Syntax.{w64}

pub loop-i-init : goal.loop-i-init
loop-i-init c = record { left = walk_starts _ _ _ }

pub loop-i-preserved : goal.loop-i-preserved
loop-i-preserved c =
    let f_from : SFits w64 c.args.from = c.ranges.from in
    let f_next : SFits w64 c.in-Continue.next = search rules in
    let turn = simp (to_z-of_z, c.in-Continue.is) at c.in_ok-next.ensures in
    let left = simp to_z-of_z at c.loop-i.invariant.left in
    simp to_z-of_z (record { left = walk_more _ _ _ _ _ _ (omega (arith, c.loop-i-test.true, c.count-i-end.ensures.value)) left (sym turn) })

pub returns-in_err-next : goal.returns-in_err-next
returns-in_err-next c =
    let f_from : SFits w64 c.args.from = c.ranges.from in
    let turn = simp to_z-of_z at c.in_err-next.ensures in
    let left = simp to_z-of_z at c.loop-i.invariant.left in
    rw c.from_residual.ensures (sym (walk_stops _ _ _ _ _ (omega (arith, c.loop-i-test.true, c.count-i-end.ensures.value)) left (sym turn)))

pub returns-in-Break : goal.returns-in-Break
returns-in-Break c =
    let f_from : SFits w64 c.args.from = c.ranges.from in
    let f_found : SFits w64 c.in-Break.found = search rules in
    let turn = simp (to_z-of_z, c.in-Break.is) at c.in_ok-next.ensures in
    let left = simp to_z-of_z at c.loop-i.invariant.left in
    simp to_z-of_z (sym (walk_found _ _ _ _ _ _ (omega (arith, c.loop-i-test.true, c.count-i-end.ensures.value)) left (sym turn)))

pub returns : goal.returns
returns c =
    let f_from : SFits w64 c.args.from = c.ranges.from in
    let left = simp to_z-of_z at c.loop-i.invariant.left in
    sym (walk_past _ _ _ _ _ (omega (arith, c.loop-i-test.false, c.count-i-end.ensures.value)) left)
