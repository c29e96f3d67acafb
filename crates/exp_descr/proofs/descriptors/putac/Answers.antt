use Rattle.std.proofs.Common.{lit≤, refl}
use Rattle.std.proofs.lemmas.Int.{to_z-of_z}
use Rattle.sil_model.specs.Access.{set_a_at}
use Rattle.descr_clauses.specs.DescriptorClauses.{putac}
use Rattle.sil_model.specs.Integers.{◌⊞◌}
use Rattle.sil_micro.proofs.Making.{by_option}
use Rattle.exp_common.proofs.Questions.{by_read}
use Rattle.exp_descr.proofs.descriptors.putac.Goals as goal
use mir.Val.{SFits}
use mir.Syntax.{w64}

pub returns : goal.returns
unfolding putac
returns c =
    let f_d1 : SFits w64 c.args.d1 = c.ranges.d1 in
    let f_n : SFits w64 c.args.n = c.ranges.n in
    let f_d2 : SFits w64 c.args.d2 = c.ranges.d2 in
    let stands = simp (to_z-of_z, c.begin_statement.ensures) at c.in_ok-append.ensures.appends in
    record {
      piece = _;
      stands = stands;
      is_piece = record { part = refl; begins = refl; once = refl; names = refl; quiet = refl; light = lit≤ tt };
      does = λ g program parameters u h.
          let m = u.state.memory in
          let valid = h.valid.memory in
          by_read m c.args.d1 valid (λ none. record { fuel = 9; meets = simp (h.left, none) (refl, refl, lit≤ tt) }) (λ a1 f1 v1 is1 read1.
          by_read m c.args.d2 valid (λ none. record { fuel = 9; meets = simp (h.left, is1, none) (refl, refl, lit≤ tt) }) (λ a f v is read.
          by_option (set_a_at m (a1 ⊞ c.args.n) a) (λ none. record { fuel = 9; meets = simp (h.left, is1, is, none) (refl, refl, lit≤ tt) }) (λ after set.
          record { fuel = 9; meets = simp (h.left, is1, is, set) (refl, lit≤ tt) })));
    }
