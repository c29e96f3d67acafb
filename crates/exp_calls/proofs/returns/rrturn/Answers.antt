use Rattle.exp_common.proofs.JoinedParts.{grows_from, grows_then}
use Rattle.exp_calls.proofs.Returning.{return_code, return_does, return_piece}
use Rattle.exp_calls.proofs.returns.rrturn.Goals as goal

pub returns : goal.returns
returns c = record {
  piece = return_code c.args.k c.args.specials.now c.args.place c.args.number;
  stands = grows_from _ _ _ _ c.begin_statement.ensures (grows_then _ _ _ _ _ c.in_ok-append_frame_read.ensures.grown (grows_then _ _ _ _ _ c.in_ok-append_top.ensures.grown c.in_ok-append_hand_over.ensures));
  is_piece = return_piece c.args.k c.args.specials.now c.args.place c.args.number _ _;
  does = return_does c.args.k c.args.specials.now c.args.place c.args.number;
}
