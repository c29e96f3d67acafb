use Rattle.std.proofs.Common.{◌≡◌, ◌-◌, ◌<◌, ◌∷◌, true, length, sym, ◌∙◌, arith}
use Rattle.std.proofs.lemmas.Bool.Decides.{nat_tests}
use Rattle.std.proofs.lemmas.Result.{err_from_is_err_and}
use Rattle.sil_format.specs.Records.{has_data, passes}
use Rattle.sil_format.specs.Records.Step.{End}
use Rattle.sil_format.proofs.LayoutLemmas.{some_taken, turn, first_pass}
use Rattle.sil_format.proofs.laying.put_all.Goals as goal

pub loop-left-init : goal.loop-left-init
loop-left-init c =
    let again = c.has_data-again.ensures in (
      length c.args.values.now,
      omega (arith, c.in_ok-left.ensures.taken),
      rw again
          (first_pass c.args.sheet.now c.args.items.now c.args.values.now c.requires.0 c.requires.1
          ∙ c.in_ok-left.ensures.laid (has_data c.args.items.now) (End ∷ passes (length c.args.values.now) c.args.items.now)),
    )

pub loop-left-smaller : goal.loop-left-smaller
loop-left-smaller c =
    let on : has_data c.args.items.now ≡ true = sym c.has_data-again.ensures ∙ c.if-not-again.false in
    let some = some_taken c.args.items.now on in
    omega (arith, c.in_ok-left-2.ensures.taken)

pub loop-left-preserved : goal.loop-left-preserved
loop-left-preserved c =
    let on : has_data c.args.items.now ≡ true = sym c.has_data-again.ensures ∙ c.if-not-again.false in
    let some = some_taken c.args.items.now on in
    let left : 0 < length c.loop-left.left.now = grind (arith, nat_tests) in
    let n = c.loop-left.invariant.0 in
    let enough = c.loop-left.invariant.1 in
    let next = turn c.has_data-again.result c.loop-left.sheet c.end_record.new.self n c.args.items.now c.loop-left.left.now c.if-not-again.false c.in_ok-end_record.ensures.ended c.in_ok-end_record.ensures.last (omega arith) left in
    (n - 1, omega (arith, c.in_ok-left-2.ensures.taken), c.loop-left.invariant.2 ∙ next ∙ c.in_ok-left-2.ensures.laid c.has_data-again.result (End ∷ passes (n - 1) c.args.items.now))

pub returns-in_err-left-2 : goal.returns-in_err-left-2
returns-in_err-left-2 c =
    let p = err_from_is_err_and c.from_residual-in_err-left-2.result c.from_residual-in_err-left-2.ensures.1 in
    let left : 0 < length c.loop-left.left.now = grind (arith, nat_tests) in
    let n = c.loop-left.invariant.0 in
    let enough = c.loop-left.invariant.1 in
    let next = turn c.has_data-again.result c.loop-left.sheet c.end_record.new.self n c.args.items.now c.loop-left.left.now c.if-not-again.false c.in_ok-end_record.ensures.ended c.in_ok-end_record.ensures.last (omega arith) left in
    rw (p.1, p.2) (rw (c.loop-left.invariant.2 ∙ next) (c.in_err-left-2.ensures.laid c.has_data-again.result (End ∷ passes (n - 1) c.args.items.now)))
