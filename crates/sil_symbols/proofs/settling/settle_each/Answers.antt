use Rattle.std.proofs.Common.{ap, sym, subst, ◌∙◌, arith, true≢false, below_more}
use Rattle.sil_symbols.specs.HeldNames.{settled_count, IsQuiet}
use Rattle.sil_symbols.proofs.settling.settle_each.Goals as goal
use Rattle.sil_symbols.proofs.settling.settle_each.Goals.{then-settle_at, else-settle_at}

pub loop-place-preserved : goal.loop-place-preserved
loop-place-preserved c =
    elim c.if-settle_at.branch [
      | then-settle_at w ↦ record {
        sound = λ labels settling. c.settle_at.ensures.sound labels (c.loop-place.invariant.sound labels settling);
        grows = omega (arith, c.loop-place.invariant.grows, c.settle_at.ensures.more w.if-settle_at.true);
        more = λ _. omega (arith, c.loop-place.invariant.grows, c.settle_at.ensures.more w.if-settle_at.true);
        quiet = λ e. absurd (true≢false (sym w.settled-is ∙ e));
      }
      | else-settle_at w ↦
          let same = c.settle_at.ensures.quiet w.if-settle_at.false in
          let names = c.args.names.now in
          record {
            sound = λ labels settling. c.settle_at.ensures.sound labels (c.loop-place.invariant.sound labels settling);
            grows = omega (arith, c.loop-place.invariant.grows, ap settled_count same);
            more = λ e. omega (arith, c.loop-place.invariant.more (sym w.settled-is ∙ e), ap settled_count same);
            quiet = λ e labels settling k below.
                subst (λ o. IsQuiet names labels o k) (sym same)
                (below_more (IsQuiet names labels c.loop-place.outcomes) c.loop-place.place (c.loop-place.invariant.quiet (sym w.settled-is ∙ e) labels settling)
                (c.settle_at.ensures.done w.if-settle_at.false labels (c.loop-place.invariant.sound labels settling)) k below);
          }
    ]
