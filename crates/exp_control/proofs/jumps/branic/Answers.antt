use Rattle.std.proofs.Common.{lit≤, refl}
use Rattle.std.proofs.lemmas.Int.{to_z-of_z}
use Rattle.flow_clauses.specs.CallClauses.{branic}
use Rattle.sil_model.specs.Integers.{◌⊞◌}
use Rattle.sil_model.specs.Entries.{entered_statement}
use Rattle.sil_micro.proofs.Making.{by_option}
use Rattle.exp_common.proofs.Questions.{by_read}
use Rattle.exp_control.proofs.Settings.{statement}
use Rattle.exp_control.proofs.jumps.branic.Goals as goal
use mir.Val.{SFits}
use mir.Syntax.{w64}

pub returns : goal.returns
unfolding branic
returns c =
    let f_d : SFits w64 c.args.d = c.ranges.d in
    let f_n : SFits w64 c.args.n = c.ranges.n in
    let stands = simp (to_z-of_z, c.begin_statement.ensures) at c.in_ok-append.ensures.appends in
    record {
      piece = _;
      stands = stands;
      is_piece = record { part = refl; begins = refl; once = refl; names = refl; quiet = refl; light = lit≤ tt };
      does = λ g program parameters u h.
          let m = u.state.memory in
          let valid = h.valid.memory in
          by_read m c.args.d valid (λ none. record { fuel = 8; meets = simp (h.left, none) (refl, refl, lit≤ tt) }) (λ a f v is read.
          by_read m (a ⊞ c.args.n) valid (λ none. record { fuel = 8; meets = simp (h.left, is, none) (refl, refl, lit≤ tt) }) (λ entry f' v' is' read'.
          let same = statement g program parameters _ _ _ u h entry in
          by_option (entered_statement m.limits.cell_size g.statements entry) (λ none. record { fuel = 8; meets = simp (h.left, is, is', same, none) (refl, refl, lit≤ tt) }) (λ j found.
          record { fuel = 8; meets = simp (h.left, is, is', same, found) (refl, lit≤ tt) })));
    }
