use Rattle.std.proofs.Common.{lit≤, refl, arith}
use Rattle.flow_clauses.specs.FlowClauses.{trap}
use Rattle.exp_control.proofs.ends.trap.Goals as goal

pub returns : goal.returns
unfolding trap
returns c args visits =
    let stands = simp c.begin_statement.ensures at c.in_ok-append.ensures.appends in
    record {
      piece = _;
      stands = stands;
      is_piece = record { part = refl; begins = refl; once = refl; names = refl; quiet = refl; light = lit≤ tt };
      does = λ g program parameters u h. record { fuel = 4; meets = simp h.left (refl, refl, omega arith) };
    }
