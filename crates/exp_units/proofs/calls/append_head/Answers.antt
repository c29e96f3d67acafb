use Rattle.std.proofs.lemmas.Int.{to_z-of_z}
use Rattle.exp_units.specs.UnitParts.{unit_head}
use Rattle.exp_units.proofs.calls.append_head.Goals as goal
use mir.Val.{SFits}
use mir.Syntax.{w64}

pub returns-clause-grown : goal.returns-clause-grown
unfolding unit_head
returns-clause-grown c =
    let f_d : SFits w64 c.args.d = c.ranges.d in
    simp to_z-of_z at c.in_ok-append.ensures.appends
