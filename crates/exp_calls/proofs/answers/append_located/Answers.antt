use Rattle.std.proofs.Common.{◌≡◌, ap, append-nil, sym, subst, arith}
use Rattle.std.proofs.lemmas.Int.{ints}
use Rattle.std.proofs.lemmas.List.{take_all}
use Rattle.sil_micro.specs.Codes.{appended}
use Rattle.sil_micro.specs.Pieces.{placed}
use Rattle.exp_calls.specs.CallParts.{located_code}
use Rattle.exp_calls.proofs.Answering.{located_grow}
use Rattle.exp_calls.proofs.answers.append_located.Goals as goal

pub loop-i-init : goal.loop-i-init
unfolding placed located_code
loop-i-init c = record { grown = ap (λ l. record c.args.code.now { ops = l }) (sym (append-nil c.args.code.now.ops)); count = omega arith }

pub loop-i-preserved : goal.loop-i-preserved
loop-i-preserved c = record {
  grown = located_grow _ _ _ _ _ _ _ _ (omega (arith, ints)) c.loop-i-test.true c.lead-to.ensures c.loop-i.invariant.grown c.in_ok-append.ensures.appends;
  count = omega (arith, c.in_ok-append.ensures.count);
}

pub returns-clause-grown : goal.returns-clause-grown
returns-clause-grown c = subst (λ l. c.loop-i.code ≡ appended c.args.code.now (located_code c.args.k 1 l)) (take_all c.loop-i.i c.args.locations.now (omega arith)) c.loop-i.invariant.grown
