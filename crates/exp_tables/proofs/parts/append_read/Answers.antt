use Rattle.std.proofs.lemmas.Int.{to_z-of_z}
use Rattle.exp_tables.specs.TableParts.{read_code}
use Rattle.exp_tables.proofs.parts.append_read.Goals as goal
use mir.Val.{SFits}
use mir.Syntax.{w64}

pub returns-clause-grown : goal.returns-clause-grown
unfolding read_code
returns-clause-grown c =
    let f_s : SFits w64 c.args.s = c.ranges.s in
    simp to_z-of_z at c.in_ok-append.ensures.appends
