use Rattle.std.proofs.Common.{◌≡◌, ap, append-nil, sym, subst, arith}
use Rattle.std.proofs.lemmas.Int.{ints}
use Rattle.std.proofs.lemmas.List.{take_all}
use Rattle.sil_micro.specs.Codes.{appended}
use Rattle.sil_micro.specs.Pieces.{placed}
use Rattle.exp_control.specs.SelectionParts.{choices_code}
use Rattle.exp_control.proofs.Choosing.{choices_grow}
use Rattle.exp_control.proofs.selection.append_choices.Goals as goal

pub loop-i-init : goal.loop-i-init
unfolding placed choices_code
loop-i-init c = record { grown = ap (λ l. record c.args.code.now { ops = l }) (sym (append-nil c.args.code.now.ops)); count = omega arith }

pub loop-i-preserved : goal.loop-i-preserved
loop-i-preserved c = record { grown = choices_grow _ _ _ _ _ _ _ _ (omega (arith, ints)) c.lead.ensures c.loop-i-test.true c.loop-i.invariant.grown c.in_ok-append.ensures.appends; count = omega (arith, c.in_ok-append.ensures.count) }

pub returns : goal.returns
returns c = subst (λ l. c.loop-i.code ≡ appended c.args.code.now (choices_code c.args.k 1 l)) (take_all c.loop-i.i c.args.locations.now (omega arith)) c.loop-i.invariant.grown
