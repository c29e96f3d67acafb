use Rattle.std.proofs.Common.{◌*◌, ◌^◌, ◌<◌, arith}
use Rattle.std.proofs.lemmas.Int.{to_z-of_z, to_z_pos}
use Rattle.exp_tables.specs.TableParts.{walk_code}
use Rattle.exp_tables.proofs.parts.append_walk.Goals as goal
use mir.Val.{SFits}
use mir.Syntax.{w64}

pub returns-clause-grown : goal.returns-clause-grown
unfolding walk_code
returns-clause-grown c =
    let f_stype : SFits w64 c.args.stype = c.ranges.stype in
    let small : 512 * c.args.t < 2 ^ 63 = omega arith in
    simp (to_z-of_z, to_z_pos, small, c.first_word-first.ensures) at c.in_ok-append.ensures.appends
