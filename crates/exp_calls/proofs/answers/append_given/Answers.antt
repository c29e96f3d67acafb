use Rattle.std.proofs.Common.{append-nil, sym, ap, rules}
use Rattle.std.proofs.lemmas.Int.{to_z-of_z}
use Rattle.sil_micro.specs.Pieces.{placed}
use Rattle.exp_calls.specs.CallParts.{given_code}
use Rattle.exp_calls.proofs.answers.append_given.Goals as goal
use mir.Val.{SFits}
use mir.Syntax.{w64}

pub returns-in-None-clause-grown : goal.returns-in-None-clause-grown
unfolding placed given_code
returns-in-None-clause-grown c = rw c.in-None.is (ap (λ l. record c.args.code.now { ops = l }) (sym (append-nil c.args.code.now.ops)))

pub returns-in_ok-append-in-Some-clause-grown : goal.returns-in_ok-append-in-Some-clause-grown
unfolding given_code
returns-in_ok-append-in-Some-clause-grown c =
    let f_place : SFits w64 c.in-Some.place = search rules in
    let grown = simp to_z-of_z at c.in_ok-append-in-Some.ensures.appends in
    rw c.in-Some.is grown
