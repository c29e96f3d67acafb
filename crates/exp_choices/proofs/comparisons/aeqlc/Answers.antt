use Rattle.std.proofs.Common.{length, lit≤, refl}
use Rattle.std.proofs.lemmas.Int.{to_z-of_z}
use Rattle.sil_model.specs.declared.program.Arg.TheVariants.{Absent}
use Rattle.choice_clauses.specs.ComparisonClauses.{aeqlc}
use Rattle.exp_common.proofs.Questions.{by_read}
use Rattle.exp_common.proofs.Leads.{goes_to, lead_within}
use Rattle.exp_choices.proofs.Orders.{by_difference, by_number}
use Rattle.exp_choices.proofs.comparisons.aeqlc.Goals as goal
use mir.Val.{SFits}
use mir.Syntax.{w64}

pub returns : goal.returns
unfolding aeqlc
returns c =
    let f_d : SFits w64 c.args.d = c.ranges.d in
    let f_n : SFits w64 c.args.n = c.ranges.n in
    let stands = simp (to_z-of_z, c.begin_statement.ensures) at c.in_ok-append.ensures.appends in
    let to = c.statements-no.ensures in
    let among = lead_within (length c.args.code.now.entries) c.args.k in
    let w0 = among c.args.to.no c.requires.statement (c.requires.within 2 Absent (lit≤ tt)) in
    let w1 = among c.args.to.yes c.requires.statement (c.requires.within 3 Absent (lit≤ tt)) in
    record {
      piece = _;
      stands = stands;
      is_piece = record { part = refl; begins = refl; once = refl; names = simp (to.no, to.yes, w0, w1); quiet = refl; light = lit≤ tt };
      does = λ g program parameters u h.
          let m = u.state.memory in
          let valid = h.valid.memory in
          by_read m c.args.d valid (λ none. record { fuel = 7; meets = simp (h.left, none) (refl, refl, lit≤ tt) }) (λ a f v is read.
          by_number c.args.n (λ n number.
          by_difference a n (λ differs flow. record { fuel = 7; meets = simp (h.left, is, number, differs, flow, to.no, goes_to) (refl, lit≤ tt) }) (λ same flow. record { fuel = 7; meets = simp (h.left, is, number, same, flow, to.yes, goes_to) (refl, lit≤ tt) })));
    }
