use Rattle.std.proofs.Common.{lit≤, refl}
use Rattle.std.proofs.lemmas.Int.{to_z-of_z}
use Rattle.std.specs.Prelude.{pos, ◌-ℤ◌}
use Rattle.layout_params.specs.declared.cell.Cell.TheVariants.{Descr}
use Rattle.sil_model.specs.Access.{put_cell, set_v_at}
use Rattle.spec_clauses.specs.SpecifierClauses.{fshrtn}
use Rattle.sil_model.specs.Integers.{◌⊞◌}
use Rattle.sil_micro.proofs.Making.{by_option}
use Rattle.exp_spec.proofs.LengthFields.{within_difference}
use Rattle.exp_common.proofs.Questions.{by_read}
use Rattle.exp_spec.proofs.lengths.fshrtn.Goals as goal
use mir.Val.{SFits}
use mir.Syntax.{w64}

pub returns : goal.returns
unfolding fshrtn
returns c =
    let f_s : SFits w64 c.args.s = c.ranges.s in
    let f_n : SFits w64 c.args.n = c.ranges.n in
    let stands = simp (to_z-of_z, c.begin_statement.ensures) at c.in_ok-append.ensures.appends in
    record {
      piece = _;
      stands = stands;
      is_piece = record { part = refl; begins = refl; once = refl; names = refl; quiet = refl; light = lit≤ tt };
      does = λ g program parameters u h.
          let m = u.state.memory in
          let valid = h.valid.memory in
          let at = c.args.s ⊞ pos m.limits.cell_size in
          by_read m at valid (λ none. record { fuel = 12; meets = simp (h.left, none) (refl, refl, lit≤ tt) }) (λ a f v is read.
          let same = within_difference m.limits.value_limit v c.args.n valid.limits.values read.value f_n in
          by_option (put_cell m at (Descr (record { a = a ⊞ c.args.n; f = f; v = v }))) (λ none. record { fuel = 12; meets = simp (h.left, is, none) (refl, refl, lit≤ tt) }) (λ cells put.
          by_option (set_v_at (record m { cells = cells }) at (pos v -ℤ c.args.n)) (λ none. record { fuel = 12; meets = simp (h.left, is, put, same, none) (refl, refl, lit≤ tt) }) (λ after set.
          record { fuel = 12; meets = simp (h.left, is, put, same, set) (refl, lit≤ tt) })));
    }
