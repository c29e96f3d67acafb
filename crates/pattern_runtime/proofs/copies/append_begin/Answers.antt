use Rattle.std.proofs.lemmas.Int.{to_z-of_z}
use Rattle.pattern_runtime.specs.PatternParts.{begin_code}
use Rattle.pattern_runtime.proofs.copies.append_begin.Goals as goal
use mir.Val.{SFits}
use mir.Syntax.{w64}

pub returns-clause-grown : goal.returns-clause-grown
unfolding begin_code
returns-clause-grown c =
    let f_d1 : SFits w64 c.args.d1 = c.ranges.d1 in
    let f_d2 : SFits w64 c.args.d2 = c.ranges.d2 in
    let f_d6 : SFits w64 c.args.d6 = c.ranges.d6 in
    simp to_z-of_z at c.in_ok-append.ensures.appends
