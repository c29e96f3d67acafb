use Rattle.std.proofs.Common.{lit≤, refl, arith}
use Rattle.std.proofs.lemmas.Int.{to_z-of_z}
use Rattle.std.specs.Prelude.{pos}
use Rattle.std.specs.Int.{int_wrap}
use Rattle.layout_params.specs.declared.cell.Cell.TheVariants.{Descr}
use Rattle.sil_model.specs.Access.{put_cell}
use Rattle.spec_clauses.specs.SpecifierClauses.{getlth, string_size}
use Rattle.sil_micro.proofs.Making.{by_option}
use Rattle.exp_common.proofs.Questions.{by_read, zero_within}
use Rattle.exp_spec.proofs.Sizes.{by_size}
use Rattle.exp_spec.proofs.blocks.getlth.Goals as goal
use mir.Val.{SFits}
use mir.Syntax.{w64}

pub returns : goal.returns
unfolding getlth
returns c =
    let f_d1 : SFits w64 c.args.d1 = c.ranges.d1 in
    let f_d2 : SFits w64 c.args.d2 = c.ranges.d2 in
    let stands = simp (to_z-of_z, c.begin_statement.ensures) at c.in_ok-append.ensures.appends in
    record {
      piece = _;
      stands = stands;
      is_piece = record { part = refl; begins = refl; once = refl; names = refl; quiet = refl; light = lit≤ tt };
      does = λ g program parameters u h.
          let m = u.state.memory in
          let valid = h.valid.memory in
          let size = m.limits.cell_size in
          by_read m c.args.d2 valid (λ none. record { fuel = 16; meets = simp (h.left, none) (refl, refl, lit≤ tt) }) (λ n f v is read.
          by_size size 3 n valid.limits.least valid.limits.most (omega arith) read.fits
          (λ below sized.
          by_option (put_cell m c.args.d1 (Descr (record { a = int_wrap w64 (pos (string_size size 3 n)); f = 0; v = 0 }))) (λ none. record { fuel = 16; meets = simp (h.left, is, below, sized, zero_within, none) (refl, refl, lit≤ tt) }) (λ cells put. record { fuel = 16; meets = simp (h.left, is, below, sized, zero_within, put) (refl, lit≤ tt) }))
          (λ other sized.
          by_option (put_cell m c.args.d1 (Descr (record { a = int_wrap w64 (pos (string_size size 3 n)); f = 0; v = 0 }))) (λ none. record { fuel = 16; meets = simp (h.left, is, other, sized, zero_within, none) (refl, refl, lit≤ tt) }) (λ cells put. record { fuel = 16; meets = simp (h.left, is, other, sized, zero_within, put) (refl, lit≤ tt) })));
    }
