use Rattle.std.proofs.Common.{lit≤, refl}
use Rattle.std.proofs.lemmas.Int.{to_z-of_z}
use Rattle.sil_model.specs.Access.{set_a_at}
use Rattle.descr_clauses.specs.DescriptorClauses.{setac}
use Rattle.sil_micro.proofs.Making.{by_option}
use Rattle.exp_descr.proofs.descriptors.setac.Goals as goal
use mir.Val.{SFits}
use mir.Syntax.{w64}

pub returns : goal.returns
unfolding setac
returns c =
    let f_d : SFits w64 c.args.d = c.ranges.d in
    let f_n : SFits w64 c.args.n = c.ranges.n in
    let stands = simp (to_z-of_z, c.begin_statement.ensures) at c.in_ok-append.ensures.appends in
    record {
      piece = _;
      stands = stands;
      is_piece = record { part = refl; begins = refl; once = refl; names = refl; quiet = refl; light = lit≤ tt };
      does = λ g program parameters u h.
          let m = u.state.memory in
          by_option (set_a_at m c.args.d c.args.n) (λ none. record { fuel = 5; meets = simp (h.left, none) (refl, refl, lit≤ tt) }) (λ after set.
          record { fuel = 5; meets = simp (h.left, set) (refl, lit≤ tt) });
    }
