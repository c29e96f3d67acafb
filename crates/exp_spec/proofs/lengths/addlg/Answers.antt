use Rattle.std.proofs.Common.{lit≤, refl}
use Rattle.std.proofs.lemmas.Int.{to_z-of_z}
use Rattle.std.specs.Prelude.{pos, ◌+ℤ◌}
use Rattle.layout_params.specs.declared.cell.Cell.TheVariants.{Descr}
use Rattle.sil_model.specs.Access.{put_cell}
use Rattle.spec_clauses.specs.SpecifierClauses.{addlg}
use Rattle.sil_model.specs.Integers.{within, ◌⊞◌}
use Rattle.sil_micro.proofs.Making.{by_option}
use Rattle.exp_spec.proofs.LengthFields.{within_sum}
use Rattle.exp_common.proofs.Questions.{by_read}
use Rattle.exp_spec.proofs.lengths.addlg.Goals as goal
use mir.Val.{SFits}
use mir.Syntax.{w64}

pub returns : goal.returns
unfolding addlg
returns c =
    let f_s : SFits w64 c.args.s = c.ranges.s in
    let f_d : SFits w64 c.args.d = c.ranges.d in
    let stands = simp (to_z-of_z, c.begin_statement.ensures) at c.in_ok-append.ensures.appends in
    record {
      piece = _;
      stands = stands;
      is_piece = record { part = refl; begins = refl; once = refl; names = refl; quiet = refl; light = lit≤ tt };
      does = λ g program parameters u h.
          let m = u.state.memory in
          let valid = h.valid.memory in
          let at = c.args.s ⊞ pos m.limits.cell_size in
          by_read m at valid (λ none. record { fuel = 10; meets = simp (h.left, none) (refl, refl, lit≤ tt) }) (λ a f v is read.
          by_read m c.args.d valid (λ none. record { fuel = 10; meets = simp (h.left, is, none) (refl, refl, lit≤ tt) }) (λ n f2 v2 is2 read2.
          let same = within_sum m.limits.value_limit v n valid.limits.values read.value read2.fits in
          by_option (within m.limits.value_limit (pos v +ℤ n)) (λ none. record { fuel = 10; meets = simp (h.left, is, is2, same, none) (refl, refl, lit≤ tt) }) (λ l fits.
          by_option (put_cell m at (Descr (record { a = a; f = f; v = l }))) (λ none. record { fuel = 10; meets = simp (h.left, is, is2, same, fits, none) (refl, refl, lit≤ tt) }) (λ cells put.
          record { fuel = 10; meets = simp (h.left, is, is2, same, fits, put) (refl, lit≤ tt) }))));
    }
