use Rattle.std.proofs.lemmas.Int.{to_z-of_z}
use Rattle.string_runtime.specs.StringParts.{first_code}
use Rattle.string_runtime.proofs.parts.append_first.Goals as goal
use mir.Val.{SFits}
use mir.Syntax.{w64}

pub returns-clause-grown : goal.returns-clause-grown
unfolding first_code
returns-clause-grown c =
    let f_s : SFits w64 c.args.s = c.ranges.s in
    simp to_z-of_z at c.in_ok-append.ensures.appends
