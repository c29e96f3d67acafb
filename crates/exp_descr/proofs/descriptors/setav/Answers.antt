use Rattle.std.proofs.Common.{lit≤, refl}
use Rattle.std.proofs.lemmas.Int.{to_z-of_z}
use Rattle.std.specs.Prelude.{pos}
use Rattle.layout_params.specs.declared.cell.Cell.TheVariants.{Descr}
use Rattle.sil_model.specs.Access.{put_cell}
use Rattle.descr_clauses.specs.DescriptorClauses.{setav}
use Rattle.sil_micro.proofs.Making.{by_option}
use Rattle.exp_common.proofs.Questions.{by_read, zero_within}
use Rattle.exp_descr.proofs.descriptors.setav.Goals as goal
use mir.Val.{SFits}
use mir.Syntax.{w64}

pub returns : goal.returns
unfolding setav
returns c =
    let f_d1 : SFits w64 c.args.d1 = c.ranges.d1 in
    let f_d2 : SFits w64 c.args.d2 = c.ranges.d2 in
    let stands = simp (to_z-of_z, c.begin_statement.ensures) at c.in_ok-append.ensures.appends in
    record {
      piece = _;
      stands = stands;
      is_piece = record { part = refl; begins = refl; once = refl; names = refl; quiet = refl; light = lit≤ tt };
      does = λ g program parameters u h.
          let m = u.state.memory in
          let valid = h.valid.memory in
          by_read m c.args.d2 valid (λ none. record { fuel = 7; meets = simp (h.left, none) (refl, refl, lit≤ tt) }) (λ a f v is read.
          by_option (put_cell m c.args.d1 (Descr (record { a = pos v; f = 0; v = 0 }))) (λ none. record { fuel = 7; meets = simp (h.left, is, zero_within, none) (refl, refl, lit≤ tt) }) (λ cells put.
          record { fuel = 7; meets = simp (h.left, is, zero_within, put) (refl, lit≤ tt) }));
    }
