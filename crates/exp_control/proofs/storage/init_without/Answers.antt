use Rattle.std.proofs.Common.{lit≤, refl}
use Rattle.exp_control.proofs.StorageSymbols.{undefined_code, undefined_does}
use Rattle.exp_control.proofs.storage.init_without.Goals as goal

pub returns : goal.returns
returns c =
    let stands = simp c.begin_statement.ensures at c.in_ok-append.ensures.appends in
    record {
      piece = undefined_code c.args.k;
      stands = stands;
      is_piece = record { part = refl; begins = refl; once = refl; names = refl; quiet = refl; light = lit≤ tt };
      does = undefined_does c.args.k c.args.specials.now c.requires.none;
    }
