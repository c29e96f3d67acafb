use Rattle.std.proofs.Common.{lit≤, refl}
use Rattle.std.proofs.lemmas.Int.{to_z-of_z}
use Rattle.std.specs.Prelude.{pos, ◌+ℤ◌}
use Rattle.layout_params.specs.declared.cell.Cell.TheVariants.{Descr}
use Rattle.sil_model.specs.Access.{put_cell}
use Rattle.descr_clauses.specs.DescriptorClauses.{incrv}
use Rattle.sil_model.specs.Integers.{within, ◌⊞◌}
use Rattle.sil_micro.proofs.Making.{by_option}
use Rattle.exp_descr.proofs.Arithmetic.{within_sum}
use Rattle.exp_common.proofs.Questions.{by_read}
use Rattle.exp_descr.proofs.descriptors.incrv.Goals as goal
use mir.Val.{SFits}
use mir.Syntax.{w64}

pub returns : goal.returns
unfolding incrv
returns c =
    let f_d : SFits w64 c.args.d = c.ranges.d in
    let f_n : SFits w64 c.args.n = c.ranges.n in
    let stands = simp (to_z-of_z, c.begin_statement.ensures) at c.in_ok-append.ensures.appends in
    record {
      piece = _;
      stands = stands;
      is_piece = record { part = refl; begins = refl; once = refl; names = refl; quiet = refl; light = lit≤ tt };
      does = λ g program parameters u h.
          let m = u.state.memory in
          let valid = h.valid.memory in
          by_read m c.args.d valid (λ none. record { fuel = 7; meets = simp (h.left, none) (refl, refl, lit≤ tt) }) (λ a f v is read.
          let same = within_sum m.limits.value_limit v c.args.n valid.limits.values read.value f_n in
          by_option (within m.limits.value_limit (pos v +ℤ c.args.n)) (λ none. record { fuel = 7; meets = simp (h.left, is, same, none) (refl, refl, lit≤ tt) }) (λ n fits.
          by_option (put_cell m c.args.d (Descr (record { a = a; f = f; v = n }))) (λ none. record { fuel = 7; meets = simp (h.left, is, same, fits, none) (refl, refl, lit≤ tt) }) (λ cells put.
          record { fuel = 7; meets = simp (h.left, is, same, fits, put) (refl, lit≤ tt) })));
    }
