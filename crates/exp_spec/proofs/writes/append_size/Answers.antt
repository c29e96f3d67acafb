use Rattle.std.proofs.lemmas.Int.{to_z-of_z}
use Rattle.exp_spec.specs.SpecParts.{size_code}
use Rattle.exp_spec.proofs.writes.append_size.Goals as goal
use mir.Val.{SFits}
use mir.Syntax.{w64}

pub returns : goal.returns
unfolding size_code
returns c =
    let f_at : SFits w64 c.args.at = c.ranges.at in
    record { grown = simp to_z-of_z at c.in_ok-append.ensures.appends }
