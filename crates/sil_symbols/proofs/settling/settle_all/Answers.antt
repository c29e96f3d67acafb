use Rattle.sil_symbols.proofs.settling.settle_all.Goals as goal

pub loop-preserved : goal.loop-preserved
loop-preserved c = λ labels settling. c.settle_each.ensures.sound labels (c.loop.invariant labels settling)

pub returns : goal.returns
returns c = λ labels settling.
    let before = c.loop.invariant labels settling in
    (c.settle_each.ensures.sound labels before, c.settle_each.ensures.done c.loop-test.false labels before)
