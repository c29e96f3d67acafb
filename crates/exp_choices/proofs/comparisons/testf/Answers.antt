use Rattle.std.proofs.Common.{length, lit≤, refl, rules}
use Rattle.std.proofs.lemmas.Int.{to_z-of_z}
use Rattle.std.specs.Prelude.{bit_and, ◌<◌, ◌==◌, ◌^◌}
use Rattle.sil_model.specs.declared.program.Arg.TheVariants.{Absent}
use Rattle.choice_clauses.specs.ComparisonClauses.{testf}
use Rattle.sil_micro.proofs.Making.{by_test}
use Rattle.exp_common.proofs.FlagBits.{both_flags}
use Rattle.exp_common.proofs.Questions.{by_read}
use Rattle.exp_common.proofs.Leads.{goes_to, lead_within}
use Rattle.exp_choices.proofs.comparisons.testf.Goals as goal
use mir.Val.{SFits}
use mir.Syntax.{w64}

pub returns : goal.returns
unfolding testf
returns c =
    let f_d : SFits w64 c.args.d = c.ranges.d in
    let f_from : SFits w64 c.from.result = search rules in
    let exact = simp to_z-of_z at c.in_ok-append.ensures.appends in
    let stands = simp (c.begin_statement.ensures, c.from.ensures) at exact in
    let to = c.statements-no.ensures in
    let among = lead_within (length c.args.code.now.entries) c.args.k in
    let w0 = among c.args.to.no c.requires.statement (c.requires.within 2 Absent (lit≤ tt)) in
    let w1 = among c.args.to.yes c.requires.statement (c.requires.within 3 Absent (lit≤ tt)) in
    record {
      piece = _;
      stands = stands;
      is_piece = record { part = refl; begins = refl; once = refl; names = simp (to.no, to.yes, w0, w1); quiet = refl; light = lit≤ tt };
      does = λ g program parameters u h.
          let m = u.state.memory in
          let flags : c.args.flags < 2 ^ 32 = c.ranges.flags.fits in
          let valid = h.valid.memory in
          by_read m c.args.d valid (λ none. record { fuel = 8; meets = simp (h.left, none) (refl, refl, lit≤ tt) }) (λ a f v is read.
          let bits = both_flags f c.args.flags read.flags flags in
          by_test (bit_and f c.args.flags == c.args.flags) (λ has. record { fuel = 8; meets = simp (h.left, is, bits, has, to.yes, goes_to) (refl, lit≤ tt) }) (λ lacks. record { fuel = 8; meets = simp (h.left, is, bits, lacks, to.no, goes_to) (refl, lit≤ tt) }));
    }
