use Rattle.std.proofs.Common.{rules}
use Rattle.std.proofs.lemmas.Int.{to_z-of_z}
use Rattle.exp_calls.specs.CallParts.{frame_code}
use Rattle.exp_calls.proofs.frames.append_frame.Goals as goal
use mir.Val.{SFits}
use mir.Syntax.{w64}

pub returns-clause-grown : goal.returns-clause-grown
unfolding frame_code
returns-clause-grown c =
    let f_k : SFits w64 c.from.result = search rules in
    let exact = simp to_z-of_z at c.in_ok-append.ensures.appends in
    simp c.from.ensures at exact
