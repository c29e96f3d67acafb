use Rattle.std.proofs.lemmas.Int.{to_z-of_z}
use Rattle.exp_trees.specs.TreeParts.{fourth_code}
use Rattle.exp_trees.proofs.writes.append_fourth.Goals as goal
use mir.Val.{SFits}
use mir.Syntax.{w64}

pub returns : goal.returns
unfolding fourth_code
returns c =
    let f_to : SFits w64 c.args.to = c.ranges.to in
    record { grown = simp to_z-of_z at c.in_ok-append.ensures.appends }
