use Rattle.std.proofs.Common.{◌+◌, ◌-◌, ◌++◌, ◌∙◌, ap, arith, replicate}
use Rattle.std.proofs.lemmas.Result.{err_from_is_err_and}
use Rattle.sil_format.specs.Records.Step.{One}
use Rattle.sil_format.specs.Layout.{outcome}
use Rattle.sil_format.proofs.LayoutLemmas.{next_step}
use Rattle.sil_format.proofs.laying.put_values.Goals as goal

pub returns-in_err-left-clause-laid : goal.returns-in_err-left-clause-laid
returns-in_err-left-clause-laid c = λ again more.
    let p = err_from_is_err_and c.from_residual.result c.from_residual.ensures.1 in
    rw (p.1, p.2)
    (rw (c.loop.invariant.laid again more, next_step c.args.count c.loop.counter (One c.args.kind) more c.loop-test.true)
    (c.in_err-left.ensures.laid again (replicate (c.args.count - (c.loop.counter + 1)) (One c.args.kind) ++ more)))

pub loop-preserved : goal.loop-preserved
loop-preserved c = record {
  laid = λ again more.
      c.loop.invariant.laid again more
      ∙ ap (λ steps. outcome again c.loop.sheet steps c.loop.left.now) (next_step c.args.count c.loop.counter (One c.args.kind) more c.loop-test.true)
      ∙ c.in_ok-left.ensures.laid again (replicate (c.args.count - (c.loop.counter + 1)) (One c.args.kind) ++ more);
  taken = omega (arith, c.loop.invariant.taken, c.in_ok-left.ensures.taken);
}
