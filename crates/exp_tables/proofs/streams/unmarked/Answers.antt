use Rattle.std.proofs.Common.{lit≤, refl}
use Rattle.exp_tables.specs.TableParts.{no_stype}
use Rattle.exp_tables.proofs.Streaming.{unmarked_does}
use Rattle.exp_tables.proofs.streams.unmarked.Goals as goal

pub returns : goal.returns
unfolding no_stype
returns c =
    let stands = simp c.begin_statement.ensures at c.in_ok-append.ensures.appends in
    record {
      piece = no_stype c.args.k;
      stands = stands;
      is_piece = record { part = refl; begins = refl; once = refl; names = refl; quiet = refl; light = lit≤ tt };
      does = unmarked_does c.args.k c.args.s1 c.args.s2 c.args.t c.args.to.error c.args.to.run_out c.args.to.stop c.args.specials.now c.requires.place;
    }
