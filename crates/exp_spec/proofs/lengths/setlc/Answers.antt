use Rattle.std.proofs.Common.{lit≤, refl}
use Rattle.std.proofs.lemmas.Int.{to_z-of_z}
use Rattle.std.specs.Prelude.{pos}
use Rattle.sil_model.specs.Access.{set_v_at}
use Rattle.spec_clauses.specs.SpecifierClauses.{setlc}
use Rattle.sil_model.specs.Integers.{◌⊞◌}
use Rattle.sil_micro.proofs.Making.{by_option}
use Rattle.exp_spec.proofs.lengths.setlc.Goals as goal
use mir.Val.{SFits}
use mir.Syntax.{w64}

pub returns : goal.returns
unfolding setlc
returns c =
    let f_s : SFits w64 c.args.s = c.ranges.s in
    let f_n : SFits w64 c.args.n = c.ranges.n in
    let stands = simp (to_z-of_z, c.begin_statement.ensures) at c.in_ok-append.ensures.appends in
    record {
      piece = _;
      stands = stands;
      is_piece = record { part = refl; begins = refl; once = refl; names = refl; quiet = refl; light = lit≤ tt };
      does = λ g program parameters u h.
          let m = u.state.memory in
          by_option (set_v_at m (c.args.s ⊞ pos m.limits.cell_size) c.args.n) (λ none. record { fuel = 7; meets = simp (h.left, none) (refl, refl, lit≤ tt) }) (λ after set.
          record { fuel = 7; meets = simp (h.left, set) (refl, lit≤ tt) });
    }
