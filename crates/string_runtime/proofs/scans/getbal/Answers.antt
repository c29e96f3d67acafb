use Rattle.std.proofs.Common.{length, lit≤, refl}
use Rattle.std.proofs.lemmas.Int.{to_z-of_z}
use Rattle.sil_model.specs.declared.program.Arg.TheVariants.{Absent}
use Rattle.exp_common.proofs.Leads.{lead_within}
use Rattle.string_runtime.specs.StringParts.{balance_code}
use Rattle.string_runtime.proofs.Balancing.{getbal_code, getbal_does}
use Rattle.string_runtime.proofs.scans.getbal.Goals as goal
use mir.Val.{SFits}
use mir.Syntax.{w64}

pub returns : goal.returns
unfolding balance_code
returns c =
    let f_s : SFits w64 c.args.s = c.ranges.s in
    let f_d : SFits w64 c.args.d = c.ranges.d in
    let to = c.statements-failure.ensures in
    let stands = simp (to_z-of_z, c.begin_statement.ensures, to.no, to.yes) at c.in_ok-append.ensures.appends in
    let among = lead_within (length c.args.code.now.entries) c.args.k in
    let w0 = among c.args.to.no c.requires.statement (c.requires.within 2 Absent (lit≤ tt)) in
    let w1 = among c.args.to.yes c.requires.statement (c.requires.within 3 Absent (lit≤ tt)) in
    record {
      piece = getbal_code c.args.k c.args.s c.args.d c.args.to.no c.args.to.yes c.args.specials.now;
      stands = stands;
      is_piece = record { part = refl; begins = refl; once = refl; names = simp (w0, w1); quiet = refl; light = lit≤ tt };
      does = getbal_does c.args.k c.args.s c.args.d c.args.to.no c.args.to.yes c.args.specials.now;
    }
