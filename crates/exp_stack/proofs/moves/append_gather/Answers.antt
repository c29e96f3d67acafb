use Rattle.std.proofs.Common.{rules}
use Rattle.std.proofs.lemmas.Int.{to_z-of_z}
use Rattle.exp_stack.specs.ListParts.{gather_code}
use Rattle.exp_stack.proofs.moves.append_gather.Goals as goal
use mir.Val.{SFits}
use mir.Syntax.{w64}

pub returns-clause-grown : goal.returns-clause-grown
unfolding gather_code
returns-clause-grown c =
    let f_1 : SFits w64 c.from.result = search rules in
    let f_2 : SFits w64 c.from-2.result = search rules in
    let exact = simp to_z-of_z at c.in_ok-append.ensures.appends in
    simp (c.from.ensures, c.from-2.ensures) at exact
