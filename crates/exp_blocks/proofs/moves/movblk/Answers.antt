use Rattle.std.proofs.Common.{lit≤, refl}
use Rattle.std.proofs.lemmas.Int.{to_z-of_z}
use Rattle.exp_blocks.specs.BlockParts.{move_code}
use Rattle.exp_blocks.proofs.BlockMoves.{movblk_does}
use Rattle.exp_blocks.proofs.moves.movblk.Goals as goal
use mir.Val.{SFits}
use mir.Syntax.{w64}

pub returns : goal.returns
unfolding move_code
returns c =
    let f_d1 : SFits w64 c.args.d1 = c.ranges.d1 in
    let f_d2 : SFits w64 c.args.d2 = c.ranges.d2 in
    let f_d3 : SFits w64 c.args.d3 = c.ranges.d3 in
    let stands = simp (to_z-of_z, c.begin_statement.ensures) at c.in_ok-append.ensures.appends in
    record {
      piece = move_code c.args.k c.args.d1 c.args.d2 c.args.d3;
      stands = stands;
      is_piece = record { part = refl; begins = refl; once = refl; names = refl; quiet = refl; light = lit≤ tt };
      does = movblk_does c.args.k c.args.d1 c.args.d2 c.args.d3 c.args.specials.now;
    }
