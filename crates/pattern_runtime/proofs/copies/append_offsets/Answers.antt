use Rattle.std.proofs.lemmas.Int.{to_z-of_z}
use Rattle.pattern_runtime.specs.PatternParts.{offsets_code}
use Rattle.pattern_runtime.proofs.copies.append_offsets.Goals as goal
use mir.Val.{SFits}
use mir.Syntax.{w64}

pub returns-clause-grown : goal.returns-clause-grown
unfolding offsets_code
returns-clause-grown c =
    let f_d3 : SFits w64 c.args.d3 = c.ranges.d3 in
    let f_d4 : SFits w64 c.args.d4 = c.ranges.d4 in
    let f_d5 : SFits w64 c.args.d5 = c.ranges.d5 in
    simp to_z-of_z at c.in_ok-append.ensures.appends
