use Rattle.std.proofs.Common.{length, lit≤, refl}
use Rattle.std.proofs.lemmas.Int.{to_z-of_z}
use Rattle.std.specs.Prelude.{pos}
use Rattle.sil_model.specs.declared.program.Arg.TheVariants.{Absent}
use Rattle.choice_clauses.specs.ComparisonClauses.{chkval}
use Rattle.sil_model.specs.Integers.{◌⊞◌}
use Rattle.exp_common.proofs.Questions.{by_read}
use Rattle.exp_common.proofs.Leads.{goes_to, lead_within}
use Rattle.exp_choices.proofs.Orders.{by_order}
use Rattle.exp_choices.proofs.comparisons.chkval.Goals as goal
use mir.Val.{SFits}
use mir.Syntax.{w64}

pub returns : goal.returns
unfolding chkval
returns c =
    let f_d1 : SFits w64 c.args.d1 = c.ranges.d1 in
    let f_d2 : SFits w64 c.args.d2 = c.ranges.d2 in
    let f_s : SFits w64 c.args.s = c.ranges.s in
    let stands = simp (to_z-of_z, c.begin_statement.ensures) at c.in_ok-append.ensures.appends in
    let to = c.statements-greater.ensures in
    let among = lead_within (length c.args.code.now.entries) c.args.k in
    let w0 = among c.args.to.greater c.requires.statement (c.requires.within 3 Absent (lit≤ tt)) in
    let w1 = among c.args.to.equal c.requires.statement (c.requires.within 4 Absent (lit≤ tt)) in
    let w2 = among c.args.to.less c.requires.statement (c.requires.within 5 Absent (lit≤ tt)) in
    record {
      piece = _;
      stands = stands;
      is_piece = record { part = refl; begins = refl; once = refl; names = simp (to.greater, to.equal, to.less, w0, w1, w2); quiet = refl; light = lit≤ tt };
      does = λ g program parameters u h.
          let m = u.state.memory in
          let valid = h.valid.memory in
          by_read m c.args.d1 valid (λ none. record { fuel = 14; meets = simp (h.left, none) (refl, refl, lit≤ tt) }) (λ a1 f1 v1 is1 read1.
          by_read m c.args.d2 valid (λ none. record { fuel = 14; meets = simp (h.left, is1, none) (refl, refl, lit≤ tt) }) (λ a2 f2 v2 is2 read2.
          by_read m (c.args.s ⊞ pos m.limits.cell_size) valid (λ none. record { fuel = 14; meets = simp (h.left, is1, is2, none) (refl, refl, lit≤ tt) }) (λ a3 f3 v3 is3 read3.
          by_order (a2 ⊞ pos v3) a1 (λ gt differs. record { fuel = 14; meets = simp (h.left, is1, is2, is3, gt, to.greater, goes_to) (refl, lit≤ tt) }) (λ ge le same. record { fuel = 14; meets = simp (h.left, is1, is2, is3, ge, le, to.equal, goes_to) (refl, lit≤ tt) }) (λ ge lt differs. record { fuel = 14; meets = simp (h.left, is1, is2, is3, ge, lt, to.less, goes_to) (refl, lit≤ tt) }))));
    }
