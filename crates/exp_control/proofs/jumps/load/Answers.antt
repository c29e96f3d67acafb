use Rattle.std.proofs.Common.{length, lit≤, refl}
use Rattle.flow_clauses.specs.FlowClauses.{load}
use Rattle.exp_common.proofs.Leads.{goes_to, lead_within}
use Rattle.exp_control.proofs.jumps.load.Goals as goal

pub returns : goal.returns
unfolding load
returns c =
    let stands = simp c.begin_statement.ensures at c.in_ok-append.ensures.appends in
    let within = lead_within (length c.args.code.now.entries) c.args.k c.args.failure c.requires.statement c.requires.within in
    record {
      piece = _;
      stands = stands;
      is_piece = record { part = refl; begins = refl; once = refl; names = simp (c.lead-to.ensures, within) refl; quiet = refl; light = lit≤ tt };
      does = λ g program parameters u h. record { fuel = 3; meets = simp (h.left, c.lead-to.ensures, goes_to) (refl, lit≤ tt) };
    }
