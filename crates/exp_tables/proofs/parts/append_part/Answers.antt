use Rattle.std.proofs.lemmas.Int.{to_z-of_z}
use Rattle.exp_tables.specs.TableParts.{part_code}
use Rattle.exp_tables.proofs.parts.append_part.Goals as goal
use mir.Val.{SFits}
use mir.Syntax.{w64}

pub returns-clause-grown : goal.returns-clause-grown
unfolding part_code
returns-clause-grown c =
    let f_stype : SFits w64 c.args.stype = c.ranges.stype in
    let f_s1 : SFits w64 c.args.s1 = c.ranges.s1 in
    let f_s2 : SFits w64 c.args.s2 = c.ranges.s2 in
    simp to_z-of_z at c.in_ok-append.ensures.appends
