use Rattle.std.proofs.Common.{sym, subst}
use Rattle.sil_symbols.specs.HeldNames.{AreSettling}
use Rattle.sil_symbols.proofs.settling.settle_in_order.Goals as goal
use Rattle.sil_symbols.proofs.settling.settle_in_order.Goals.{then-place-statements, else-place-statements}

pub loop-place-preserved : goal.loop-place-preserved
loop-place-preserved c = λ labels settling.
    elim c.if-place-statements.branch [
      | then-place-statements w ↦ subst (AreSettling c.args.names.now c.args.statements.now labels) (sym w.outcomes-is) (w.settle_at.ensures.sound labels (c.loop-place.invariant labels settling))
      | else-place-statements w ↦ subst (AreSettling c.args.names.now c.args.statements.now labels) (sym w.outcomes-is) (c.loop-place.invariant labels settling)
    ]
