use Rattle.std.proofs.lemmas.Int.{to_z-of_z}
use Rattle.pattern_runtime.specs.PatternParts.{search_code}
use Rattle.pattern_runtime.proofs.pairs.append_search.Goals as goal
use mir.Val.{SFits}
use mir.Syntax.{w64}

pub returns : goal.returns
unfolding search_code
returns c =
    let f_cell : SFits w64 c.args.cell = c.ranges.cell in
    let f_d1 : SFits w64 c.args.d1 = c.ranges.d1 in
    let f_d2 : SFits w64 c.args.d2 = c.ranges.d2 in
    let f_d3 : SFits w64 c.args.d3 = c.ranges.d3 in
    let to = c.statements-failure.ensures in
    simp (to_z-of_z, to.no, to.yes) at c.in_ok-append.ensures.appends
