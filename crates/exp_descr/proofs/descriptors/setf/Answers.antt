use Rattle.std.proofs.Common.{lit≤, refl, rules}
use Rattle.std.proofs.lemmas.Int.{to_z-of_z}
use Rattle.std.specs.Prelude.{bit_or, pos, ◌<◌, ◌^◌}
use Rattle.layout_params.specs.declared.cell.Cell.TheVariants.{Descr}
use Rattle.sil_model.specs.Access.{put_cell}
use Rattle.descr_clauses.specs.DescriptorClauses.{setf}
use Rattle.sil_model.specs.Integers.{within}
use Rattle.sil_micro.proofs.Making.{by_option}
use Rattle.exp_descr.proofs.Arithmetic.{with_flags}
use Rattle.exp_common.proofs.Questions.{by_read}
use Rattle.exp_descr.proofs.descriptors.setf.Goals as goal
use mir.Val.{SFits}
use mir.Syntax.{w64}

pub returns : goal.returns
unfolding setf
returns c =
    let f_d : SFits w64 c.args.d = c.ranges.d in
    let f_from : SFits w64 c.from.result = search rules in
    let exact = simp to_z-of_z at c.in_ok-append.ensures.appends in
    let stands = simp (c.begin_statement.ensures, c.from.ensures) at exact in
    record {
      piece = _;
      stands = stands;
      is_piece = record { part = refl; begins = refl; once = refl; names = refl; quiet = refl; light = lit≤ tt };
      does = λ g program parameters u h.
          let m = u.state.memory in
          let flags : c.args.flags < 2 ^ 32 = c.ranges.flags.fits in
          let valid = h.valid.memory in
          by_read m c.args.d valid (λ none. record { fuel = 7; meets = simp (h.left, none) (refl, refl, lit≤ tt) }) (λ a f v is read.
          let bits = with_flags f c.args.flags read.flags flags in
          by_option (within m.limits.flag_limit (pos (bit_or f c.args.flags))) (λ none. record { fuel = 7; meets = simp (h.left, is, bits, none) (refl, refl, lit≤ tt) }) (λ n fits.
          by_option (put_cell m c.args.d (Descr (record { a = a; f = n; v = v }))) (λ none. record { fuel = 7; meets = simp (h.left, is, bits, fits, none) (refl, refl, lit≤ tt) }) (λ cells put.
          record { fuel = 7; meets = simp (h.left, is, bits, fits, put) (refl, lit≤ tt) })));
    }
