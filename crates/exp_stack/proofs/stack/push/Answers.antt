use Rattle.exp_common.proofs.JoinedParts.{grows_from, grows_then}
use Rattle.exp_stack.proofs.Pushing.{push_code, push_does, push_piece}
use Rattle.exp_stack.proofs.stack.push.Goals as goal

pub returns : goal.returns
returns c = record {
  piece = push_code c.args.k c.args.specials.now c.args.places.now;
  stands = grows_from _ _ _ _ c.begin_statement.ensures (grows_then _ _ _ _ _ c.in_ok-append_up.ensures.grown (grows_then _ _ _ _ _ c.in_ok-append_guard.ensures.grown (grows_then _ _ _ _ _ c.in_ok-append_places.ensures.grown (grows_then _ _ _ _ _ c.in_ok-append_line.ensures.grown c.in_ok-append_moves.ensures.grown))));
  is_piece = push_piece c.args.k c.args.specials.now c.args.places.now _ _ c.requires.among.over c.requires.few;
  does = push_does c.args.k c.args.specials.now c.args.places.now c.requires.few;
}
