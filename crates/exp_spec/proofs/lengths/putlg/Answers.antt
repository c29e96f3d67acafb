use Rattle.std.proofs.Common.{lit≤, refl}
use Rattle.std.proofs.lemmas.Int.{to_z-of_z}
use Rattle.std.specs.Prelude.{pos}
use Rattle.sil_model.specs.Access.{set_v_at}
use Rattle.spec_clauses.specs.SpecifierClauses.{putlg}
use Rattle.sil_model.specs.Integers.{◌⊞◌}
use Rattle.sil_micro.proofs.Making.{by_option}
use Rattle.exp_common.proofs.Questions.{by_read}
use Rattle.exp_spec.proofs.lengths.putlg.Goals as goal
use mir.Val.{SFits}
use mir.Syntax.{w64}

pub returns : goal.returns
unfolding putlg
returns c =
    let f_s : SFits w64 c.args.s = c.ranges.s in
    let f_d : SFits w64 c.args.d = c.ranges.d in
    let stands = simp (to_z-of_z, c.begin_statement.ensures) at c.in_ok-append.ensures.appends in
    record {
      piece = _;
      stands = stands;
      is_piece = record { part = refl; begins = refl; once = refl; names = refl; quiet = refl; light = lit≤ tt };
      does = λ g program parameters u h.
          let m = u.state.memory in
          let valid = h.valid.memory in
          by_read m c.args.d valid (λ none. record { fuel = 8; meets = simp (h.left, none) (refl, refl, lit≤ tt) }) (λ a f v is read.
          by_option (set_v_at m (c.args.s ⊞ pos m.limits.cell_size) a) (λ none. record { fuel = 8; meets = simp (h.left, is, none) (refl, refl, lit≤ tt) }) (λ after set.
          record { fuel = 8; meets = simp (h.left, is, set) (refl, lit≤ tt) }));
    }
