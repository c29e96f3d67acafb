use Rattle.std.proofs.Common.{lit≤, refl}
use Rattle.std.proofs.lemmas.Int.{to_z-of_z}
use Rattle.string_runtime.specs.StringParts.{append_code}
use Rattle.string_runtime.proofs.Appending.{apdsp_does}
use Rattle.string_runtime.proofs.copies.apdsp.Goals as goal
use mir.Val.{SFits}
use mir.Syntax.{w64}

pub returns : goal.returns
unfolding append_code
returns c =
    let f_s1 : SFits w64 c.args.s1 = c.ranges.s1 in
    let f_s2 : SFits w64 c.args.s2 = c.ranges.s2 in
    let stands = simp (to_z-of_z, c.begin_statement.ensures) at c.in_ok-append.ensures.appends in
    record {
      piece = append_code c.args.k c.args.s1 c.args.s2;
      stands = stands;
      is_piece = record { part = refl; begins = refl; once = refl; names = refl; quiet = refl; light = lit≤ tt };
      does = apdsp_does c.args.k c.args.s1 c.args.s2 c.args.specials.now;
    }
