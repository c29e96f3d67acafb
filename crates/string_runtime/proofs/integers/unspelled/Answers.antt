use Rattle.std.proofs.Common.{lit≤, refl}
use Rattle.string_runtime.specs.StringParts.{no_code}
use Rattle.string_runtime.proofs.Digits.{unspelled}
use Rattle.string_runtime.proofs.integers.unspelled.Goals as goal

pub returns : goal.returns
unfolding no_code
returns c =
    let stands = simp c.begin_statement.ensures at c.in_ok-append.ensures.appends in
    record {
      piece = no_code c.args.k;
      stands = stands;
      is_piece = record { part = refl; begins = refl; once = refl; names = refl; quiet = refl; light = lit≤ tt };
      does = unspelled c.args.k c.args.d c.args.s c.args.to.no c.args.to.yes c.args.specials.now c.requires.value;
    }
