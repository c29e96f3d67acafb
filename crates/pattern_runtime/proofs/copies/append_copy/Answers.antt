use Rattle.std.proofs.lemmas.Int.{to_z-of_z}
use Rattle.pattern_runtime.specs.PatternParts.{copy_code}
use Rattle.pattern_runtime.proofs.copies.append_copy.Goals as goal
use mir.Val.{SFits}
use mir.Syntax.{w64}

pub returns-clause-grown : goal.returns-clause-grown
unfolding copy_code
returns-clause-grown c =
    let f_d1 : SFits w64 c.args.d1 = c.ranges.d1 in
    simp to_z-of_z at c.in_ok-append.ensures.appends
