use Rattle.std.proofs.Common.{length, lit≤, refl}
use Rattle.std.proofs.lemmas.Int.{to_z-of_z}
use Rattle.layout_params.specs.declared.cell.Cell.TheVariants.{Descr}
use Rattle.sil_model.specs.Access.{put_cell}
use Rattle.sil_model.specs.declared.program.Arg.TheVariants.{Absent}
use Rattle.choice_clauses.specs.IntegerClauses.{mult}
use Rattle.sil_model.specs.Integers.{wrapped_product}
use Rattle.sil_micro.proofs.Making.{by_option}
use Rattle.exp_common.proofs.Questions.{by_read}
use Rattle.exp_common.proofs.Leads.{goes_to, lead_within}
use Rattle.exp_common.proofs.Products.{by_product}
use Rattle.exp_choices.proofs.integers.mult.Goals as goal
use mir.Val.{SFits}
use mir.Syntax.{w64}

pub returns : goal.returns
unfolding mult
returns c =
    let f_d1 : SFits w64 c.args.d1 = c.ranges.d1 in
    let f_d2 : SFits w64 c.args.d2 = c.ranges.d2 in
    let f_d3 : SFits w64 c.args.d3 = c.ranges.d3 in
    let stands = simp (to_z-of_z, c.begin_statement.ensures) at c.in_ok-append.ensures.appends in
    let to = c.statements-no.ensures in
    let among = lead_within (length c.args.code.now.entries) c.args.k in
    let w0 = among c.args.to.no c.requires.statement (c.requires.within 3 Absent (lit≤ tt)) in
    let w1 = among c.args.to.yes c.requires.statement (c.requires.within 4 Absent (lit≤ tt)) in
    record {
      piece = _;
      stands = stands;
      is_piece = record { part = refl; begins = refl; once = refl; names = simp (to.no, to.yes, w0, w1); quiet = refl; light = lit≤ tt };
      does = λ g program parameters u h.
          let m = u.state.memory in
          let valid = h.valid.memory in
          by_read m c.args.d2 valid (λ none. record { fuel = 17; meets = simp (h.left, none) (refl, refl, lit≤ tt) }) (λ a f v is read.
          by_read m c.args.d3 valid (λ none. record { fuel = 17; meets = simp (h.left, is, none) (refl, refl, lit≤ tt) }) (λ a3 f3 v3 is3 read3.
          by_product a a3 read.fits read3.fits
          (λ negative sign held. by_option (put_cell m c.args.d1 (Descr (record { a = wrapped_product a a3; f = f; v = v }))) (λ none. record { fuel = 17; meets = simp (h.left, is, is3, negative, sign, held, read.f_again, read.v_again, none) (refl, refl, lit≤ tt) }) (λ cells put. record { fuel = 17; meets = simp (h.left, is, is3, negative, sign, held, read.f_again, read.v_again, put, to.yes, goes_to) (refl, lit≤ tt) }))
          (λ negative other lost. record { fuel = 17; meets = simp (h.left, is, is3, negative, other, lost, to.no, goes_to) (refl, lit≤ tt) })
          (λ positive other lost. record { fuel = 17; meets = simp (h.left, is, is3, positive, other, lost, to.no, goes_to) (refl, lit≤ tt) })
          (λ positive sign held. by_option (put_cell m c.args.d1 (Descr (record { a = wrapped_product a a3; f = f; v = v }))) (λ none. record { fuel = 17; meets = simp (h.left, is, is3, positive, sign, held, read.f_again, read.v_again, none) (refl, refl, lit≤ tt) }) (λ cells put. record { fuel = 17; meets = simp (h.left, is, is3, positive, sign, held, read.f_again, read.v_again, put, to.yes, goes_to) (refl, lit≤ tt) }))));
    }
