use Rattle.std.proofs.Common.{rules}
use Rattle.std.proofs.lemmas.Int.{to_z-of_z}
use Rattle.exp_calls.specs.ReturnParts.{hand_over_code}
use Rattle.exp_calls.proofs.returns.append_hand_over.Goals as goal
use mir.Val.{SFits}
use mir.Syntax.{w64}

pub returns : goal.returns
unfolding hand_over_code
returns c =
    let f_at : SFits w64 c.or_zero-at.result = search rules in
    let f_has : SFits w64 c.flag-has.result = search rules in
    let f_n : SFits w64 c.or_zero-n.result = search rules in
    let exact = simp to_z-of_z at c.in_ok-append.ensures.appends in
    simp (c.or_zero-at.ensures, c.flag-has.ensures, c.or_zero-n.ensures) at exact
