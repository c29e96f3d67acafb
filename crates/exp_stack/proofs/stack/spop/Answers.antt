use Rattle.exp_common.proofs.JoinedParts.{grows_from, grows_then}
use Rattle.exp_stack.proofs.SpecPopping.{spop_code, spop_does, spop_piece}
use Rattle.exp_stack.proofs.stack.spop.Goals as goal

pub returns : goal.returns
returns c = record {
  piece = spop_code c.args.k c.args.specials.now c.args.places.now;
  stands = grows_from _ _ _ _ c.begin_statement.ensures (grows_then _ _ _ _ _ c.in_ok-append_down.ensures.grown (grows_then _ _ _ _ _ c.in_ok-append_guard.ensures.grown (grows_then _ _ _ _ _ c.in_ok-append.ensures.appends (grows_then _ _ _ _ _ c.in_ok-append_line.ensures.grown (grows_then _ _ _ _ _ c.in_ok-append_places.ensures.grown c.in_ok-append_spec_moves.ensures.grown)))));
  is_piece = spop_piece c.args.k c.args.specials.now c.args.places.now _ _ c.requires.among.under c.requires.few;
  does = spop_does c.args.k c.args.specials.now c.args.places.now c.requires.few;
}
