use Rattle.std.proofs.Common.{arith}
use Rattle.tree_clauses.proofs.LoopLaws.{walk_starts, walk_more, walk_found, walk_stops, walk_past}
use Rattle.tree_clauses.proofs.copies.copy_nodes.Goals as goal

pub loop-i-init : goal.loop-i-init
loop-i-init c = record { left = walk_starts _ _ _ }

pub returns-in_err-next : goal.returns-in_err-next
returns-in_err-next c =
    let turn = c.in_err-next.ensures.copies in
    let left = c.loop-i.invariant.left in
    rw c.from_residual.ensures (walk_stops _ _ _ _ _ (omega (arith, c.loop-i-test.true, c.count-i-end.ensures.value)) left turn)

pub returns-in-Break : goal.returns-in-Break
returns-in-Break c =
    let turn = simp c.in-Break.is at c.in_ok-next.ensures.copies in
    let left = c.loop-i.invariant.left in
    walk_found _ _ _ _ _ _ (omega (arith, c.loop-i-test.true, c.count-i-end.ensures.value)) left turn

pub loop-i-preserved : goal.loop-i-preserved
loop-i-preserved c =
    let turn = simp c.in-Continue.is at c.in_ok-next.ensures.copies in
    let left = c.loop-i.invariant.left in
    record { left = walk_more _ _ _ _ _ _ (omega (arith, c.loop-i-test.true, c.count-i-end.ensures.value)) left turn }

pub returns : goal.returns
returns c =
    let left = c.loop-i.invariant.left in
    walk_past _ _ _ _ _ (omega (arith, c.loop-i-test.false, c.count-i-end.ensures.value)) left
