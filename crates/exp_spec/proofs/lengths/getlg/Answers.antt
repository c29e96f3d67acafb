use Rattle.std.proofs.Common.{lit≤, refl}
use Rattle.std.proofs.lemmas.Int.{to_z-of_z}
use Rattle.std.specs.Prelude.{pos}
use Rattle.layout_params.specs.declared.cell.Cell.TheVariants.{Descr}
use Rattle.sil_model.specs.Access.{put_cell}
use Rattle.spec_clauses.specs.SpecifierClauses.{getlg}
use Rattle.sil_model.specs.Integers.{◌⊞◌}
use Rattle.sil_micro.proofs.Making.{by_option}
use Rattle.exp_common.proofs.Questions.{by_read, zero_within}
use Rattle.exp_spec.proofs.lengths.getlg.Goals as goal
use mir.Val.{SFits}
use mir.Syntax.{w64}

pub returns : goal.returns
unfolding getlg
returns c =
    let f_d : SFits w64 c.args.d = c.ranges.d in
    let f_s : SFits w64 c.args.s = c.ranges.s in
    let stands = simp (to_z-of_z, c.begin_statement.ensures) at c.in_ok-append.ensures.appends in
    record {
      piece = _;
      stands = stands;
      is_piece = record { part = refl; begins = refl; once = refl; names = refl; quiet = refl; light = lit≤ tt };
      does = λ g program parameters u h.
          let m = u.state.memory in
          let valid = h.valid.memory in
          by_read m (c.args.s ⊞ pos m.limits.cell_size) valid (λ none. record { fuel = 9; meets = simp (h.left, none) (refl, refl, lit≤ tt) }) (λ a f v is read.
          by_option (put_cell m c.args.d (Descr (record { a = pos v; f = 0; v = 0 }))) (λ none. record { fuel = 9; meets = simp (h.left, is, zero_within, none) (refl, refl, lit≤ tt) }) (λ cells put.
          record { fuel = 9; meets = simp (h.left, is, zero_within, put) (refl, lit≤ tt) }));
    }
