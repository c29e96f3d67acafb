use Rattle.std.proofs.lemmas.Int.{to_z-of_z}
use Rattle.exp_common.proofs.JoinedParts.{grows_from, grows_then}
use Rattle.exp_units.proofs.Moving.{move_code, move_does, move_piece}
use Rattle.exp_units.proofs.moves.unit_move.Goals as goal
use mir.Val.{SFits}
use mir.Syntax.{w64}

pub returns : goal.returns
returns c = λ visits.
    let f_d : SFits w64 c.args.d = c.ranges.d in
    let head = simp to_z-of_z at c.in_ok-append_head.ensures.grown in
    record {
      piece = move_code c.args.k c.args.call c.args.d;
      stands = grows_from _ _ _ _ c.begin_statement.ensures (grows_then _ _ _ _ _ head c.in_ok-append_call.ensures);
      is_piece = move_piece c.args.k _ _ c.args.call c.args.d c.requires.moves;
      does = move_does c.args.k c.args.d c.args.specials.now visits c.args.call c.requires.moves;
    }
