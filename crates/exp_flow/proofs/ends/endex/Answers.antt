use Rattle.std.proofs.Common.{refl, lit≤}
use Rattle.std.proofs.lemmas.Int.{to_z-of_z}
use Rattle.sil_model.specs.Access.{descr_at}
use Rattle.flow_clauses.specs.FlowClauses.{endex}
use Rattle.sil_micro.proofs.Making.{by_option}
use Rattle.exp_flow.proofs.Zero.{by_zero}
use Rattle.exp_flow.proofs.ends.endex.Goals as goal
use mir.Val.{SFits}
use mir.Syntax.{w64}

pub returns : goal.returns
unfolding endex
returns c =
    let f_d : SFits w64 c.args.d = c.ranges.d in
    let stands = simp (to_z-of_z, c.begin_statement.ensures) at c.in_ok-append.ensures.appends in
    record {
      piece = _;
      stands = stands;
      is_piece = record { part = refl; begins = refl; once = refl; names = refl; quiet = refl; light = lit≤ tt };
      does = λ g program parameters u h.
          by_option (descr_at u.state.memory c.args.d) (λ none. record { fuel = 8; meets = simp (h.left, none) (refl, refl, lit≤ tt) }) (λ d is.
          by_zero d.a (λ zero. record { fuel = 8; meets = simp (h.left, is, zero) (refl, refl, lit≤ tt) }) (λ differs code. record { fuel = 8; meets = simp (h.left, is, differs, code) (refl, refl, lit≤ tt) }));
    }
