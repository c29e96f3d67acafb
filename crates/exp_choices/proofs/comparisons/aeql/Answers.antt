use Rattle.std.proofs.Common.{length, lit≤, refl}
use Rattle.std.proofs.lemmas.Int.{to_z-of_z}
use Rattle.sil_model.specs.declared.program.Arg.TheVariants.{Absent}
use Rattle.choice_clauses.specs.ComparisonClauses.{aeql}
use Rattle.exp_common.proofs.Questions.{by_read}
use Rattle.exp_common.proofs.Leads.{goes_to, lead_within}
use Rattle.exp_choices.proofs.Orders.{by_difference}
use Rattle.exp_choices.proofs.comparisons.aeql.Goals as goal
use mir.Val.{SFits}
use mir.Syntax.{w64}

pub returns : goal.returns
unfolding aeql
returns c =
    let f_d1 : SFits w64 c.args.d1 = c.ranges.d1 in
    let f_d2 : SFits w64 c.args.d2 = c.ranges.d2 in
    let stands = simp (to_z-of_z, c.begin_statement.ensures) at c.in_ok-append.ensures.appends in
    let to = c.statements-no.ensures in
    let among = lead_within (length c.args.code.now.entries) c.args.k in
    let w0 = among c.args.to.no c.requires.statement (c.requires.within 2 Absent (lit≤ tt)) in
    let w1 = among c.args.to.yes c.requires.statement (c.requires.within 3 Absent (lit≤ tt)) in
    record {
      piece = _;
      stands = stands;
      is_piece = record { part = refl; begins = refl; once = refl; names = simp (to.no, to.yes, w0, w1); quiet = refl; light = lit≤ tt };
      does = λ g program parameters u h.
          let m = u.state.memory in
          let valid = h.valid.memory in
          by_read m c.args.d1 valid (λ none. record { fuel = 8; meets = simp (h.left, none) (refl, refl, lit≤ tt) }) (λ a1 f1 v1 is1 read1.
          by_read m c.args.d2 valid (λ none. record { fuel = 8; meets = simp (h.left, is1, none) (refl, refl, lit≤ tt) }) (λ a2 f2 v2 is2 read2.
          by_difference a1 a2 (λ differs flow. record { fuel = 8; meets = simp (h.left, is1, is2, differs, flow, to.no, goes_to) (refl, lit≤ tt) }) (λ same flow. record { fuel = 8; meets = simp (h.left, is1, is2, same, flow, to.yes, goes_to) (refl, lit≤ tt) })));
    }
