use Rattle.std.proofs.lemmas.Int.{to_z-of_z}
use Rattle.exp_control.proofs.Selecting.{selection_code, selection_does, selection_piece}
use Rattle.exp_control.proofs.selection.selbra.Goals as goal
use Rattle.exp_common.proofs.JoinedParts.{grows_from, grows_then}
use mir.Val.{SFits}
use mir.Syntax.{w64}

pub returns : goal.returns
returns c =
    let f_d : SFits w64 c.args.d = c.ranges.d in
    let head = simp to_z-of_z at c.in_ok-append_head.ensures.grown in
    record {
      piece = selection_code c.args.k c.args.d c.args.locations.now;
      stands = grows_from _ _ _ _ c.begin_statement.ensures (grows_then _ _ _ _ _ head c.in_ok-append_choices.ensures);
      is_piece = selection_piece c.args.k _ _ c.args.d c.args.locations.now c.requires.statement c.requires.few c.requires.within;
      does = selection_does c.args.k c.args.specials.now c.args.d c.args.locations.now;
    }
