use Rattle.std.proofs.Common.{lit≤, refl, arith}
use Rattle.flow_clauses.specs.FlowClauses.{nothing}
use Rattle.exp_control.proofs.ends.nothing.Goals as goal

pub returns : goal.returns
unfolding nothing
returns c args visits =
    let stands = simp c.begin_statement.ensures at c.in_ok-append.ensures.appends in
    record {
      piece = _;
      stands = stands;
      is_piece = record { part = refl; begins = refl; once = refl; names = refl; quiet = refl; light = lit≤ tt };
      does = λ g program parameters u h. record { fuel = 2; meets = simp h.left (refl, omega arith) };
    }
