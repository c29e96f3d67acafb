use Rattle.std.proofs.Common.{◌≡◌, ◌*◌, lit≤, refl, arith}
use Rattle.std.proofs.lemmas.Int.{to_z-of_z}
use Rattle.std.specs.Prelude.{pos}
use Rattle.layout_params.specs.declared.cell.Cell.TheVariants.{Descr}
use Rattle.sil_model.specs.Access.{put_cell}
use Rattle.sil_model.specs.Integers.{◌⊟◌}
use Rattle.flow_clauses.specs.StackClauses.{pstack}
use Rattle.sil_micro.proofs.Making.{by_option}
use Rattle.exp_common.proofs.Questions.{zero_within}
use Rattle.exp_control.proofs.stack.pstack.Goals as goal
use mir.Val.{SFits}
use mir.Syntax.{w64}

pub returns : goal.returns
unfolding pstack
returns c =
    let f_d : SFits w64 c.args.d = c.ranges.d in
    let stands = simp (to_z-of_z, c.begin_statement.ensures) at c.in_ok-append.ensures.appends in
    record {
      piece = _;
      stands = stands;
      is_piece = record { part = refl; begins = refl; once = refl; names = refl; quiet = refl; light = lit≤ tt };
      does = λ g program parameters u h.
          let m = u.state.memory in
          let one : 1 * m.limits.cell_size ≡ m.limits.cell_size = omega arith in
          by_option (put_cell m c.args.d (Descr (record { a = u.state.current ⊟ pos m.limits.cell_size; f = 0; v = 0 }))) (λ none. record { fuel = 8; meets = simp (h.left, zero_within, one, none) (refl, refl, lit≤ tt) }) (λ cells put.
          record { fuel = 8; meets = simp (h.left, zero_within, one, put) (refl, lit≤ tt) });
    }
