use Rattle.std.proofs.Common.{length, lit≤, refl}
use Rattle.std.proofs.lemmas.Int.{to_z-of_z}
use Rattle.sil_model.specs.declared.program.Arg.TheVariants.{Absent}
use Rattle.exp_common.proofs.Leads.{lead_within}
use Rattle.exp_powers.specs.PowerParts.{power_code}
use Rattle.exp_powers.proofs.Raising.{expint_does, raised_code}
use Rattle.exp_powers.proofs.powers.expint.Goals as goal
use mir.Val.{SFits}
use mir.Syntax.{w64}

pub returns : goal.returns
unfolding power_code
returns c =
    let f_d1 : SFits w64 c.args.d1 = c.ranges.d1 in
    let f_d2 : SFits w64 c.args.d2 = c.ranges.d2 in
    let f_d3 : SFits w64 c.args.d3 = c.ranges.d3 in
    let to = c.statements-failure.ensures in
    let stands = simp (to_z-of_z, to.no, to.yes, c.begin_statement.ensures) at c.in_ok-append.ensures.appends in
    let among = lead_within (length c.args.code.now.entries) c.args.k in
    let w0 = among c.args.to.no c.requires.statement (c.requires.within 3 Absent (lit≤ tt)) in
    let w1 = among c.args.to.yes c.requires.statement (c.requires.within 4 Absent (lit≤ tt)) in
    record {
      piece = raised_code c.args.k c.args.d1 c.args.d2 c.args.d3 c.args.to.no c.args.to.yes c.args.specials.now;
      stands = stands;
      is_piece = record { part = refl; begins = refl; once = refl; names = simp (w0, w1); quiet = refl; light = lit≤ tt };
      does = expint_does c.args.k c.args.d1 c.args.d2 c.args.d3 c.args.to.no c.args.to.yes c.args.specials.now;
    }
