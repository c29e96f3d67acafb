use Rattle.std.proofs.Common.{◌*◌, ◌^◌, ◌<◌, arith, lit≤, refl}
use Rattle.std.proofs.lemmas.Int.{to_z-of_z, to_z_pos}
use Rattle.sil_micro.specs.TableWords.{action_number}
use Rattle.exp_tables.specs.TableParts.{plug_code}
use Rattle.exp_tables.proofs.Plugging.{plugtb_does}
use Rattle.exp_tables.proofs.EntryWords.{action_small}
use Rattle.exp_tables.proofs.changes.plugtb.Goals as goal
use mir.Val.{SFits}
use mir.Syntax.{w64}

pub returns : goal.returns
unfolding plug_code
returns c =
    let f_s : SFits w64 c.args.s = c.ranges.s in
    let small : 512 * c.args.t < 2 ^ 63 = omega arith in
    let low : action_number c.args.key < 2 ^ 63 = omega (arith, action_small c.args.key) in
    let stands = simp (to_z-of_z, to_z_pos, small, low, c.begin_statement.ensures, c.first_word-first.ensures, c.action_number-action.ensures) at c.in_ok-append.ensures.appends in
    record {
      piece = plug_code c.args.k c.args.s c.args.t (action_number c.args.key);
      stands = stands;
      is_piece = record { part = refl; begins = refl; once = refl; names = refl; quiet = refl; light = lit≤ tt };
      does = plugtb_does c.args.k c.args.s c.args.t c.args.key c.args.specials.now;
    }
