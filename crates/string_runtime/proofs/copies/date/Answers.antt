use Rattle.std.proofs.lemmas.Int.{to_z-of_z}
use Rattle.exp_common.proofs.JoinedParts.{grows_from, grows_then}
use Rattle.string_runtime.specs.StringParts.{date_code}
use Rattle.string_runtime.proofs.Texts.{date_does, date_piece, whole_date}
use Rattle.string_runtime.proofs.copies.date.Goals as goal
use mir.Val.{SFits}
use mir.Syntax.{w64}

pub returns : goal.returns
unfolding date_code
returns c =
    let f_s : SFits w64 c.args.s = c.ranges.s in
    let text = simp to_z-of_z at c.in_ok-append_text.ensures.grown in
    record {
      piece = whole_date c.args.k c.args.s c.args.specials.now;
      stands = grows_from _ _ _ _ c.begin_statement.ensures (grows_then _ _ _ _ _ c.in_ok-append.ensures.appends text);
      is_piece = date_piece c.args.k c.args.s c.args.specials.now _ _;
      does = date_does c.args.k c.args.s c.args.specials.now;
    }
