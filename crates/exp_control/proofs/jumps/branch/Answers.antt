use Rattle.std.proofs.Common.{◌≡◌, length, true, lit≤, refl, arith}
use Rattle.std.proofs.lemmas.Bool.Decides.{nat_tests}
use Rattle.std.specs.Prelude.{nat_le}
use Rattle.flow_clauses.specs.FlowClauses.{branch}
use Rattle.exp_control.proofs.jumps.branch.Goals as goal

pub returns : goal.returns
unfolding branch
returns c =
    let stands = simp c.begin_statement.ensures at c.in_ok-append.ensures.appends in
    let within : nat_le c.args.to (length c.args.code.now.entries) ≡ true = grind (arith, nat_tests, c.requires.within) in
    record {
      piece = _;
      stands = stands;
      is_piece = record { part = refl; begins = refl; once = refl; names = simp within refl; quiet = refl; light = lit≤ tt };
      does = λ g program parameters u h. record { fuel = 3; meets = simp h.left (refl, lit≤ tt) };
    }
