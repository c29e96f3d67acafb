use Rattle.std.proofs.Common.{lit≤, refl}
use Rattle.flow_clauses.specs.StackClauses.{istack}
use Rattle.exp_control.proofs.Settings.{bottom}
use Rattle.exp_control.proofs.stack.istack.Goals as goal

pub returns : goal.returns
unfolding istack
returns c =
    let stands = simp c.begin_statement.ensures at c.in_ok-append.ensures.appends in
    record {
      piece = _;
      stands = stands;
      is_piece = record { part = refl; begins = refl; once = refl; names = refl; quiet = refl; light = lit≤ tt };
      does = λ g program parameters u h.
          let base = bottom g program parameters _ _ _ u h in
          record { fuel = 9; meets = simp (h.left, base) (refl, lit≤ tt) };
    }
