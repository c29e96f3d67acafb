use Rattle.std.proofs.Common.{◌^◌, ◌<◌, lit≤, refl, arith}
use Rattle.std.proofs.lemmas.Int.{to_z-of_z}
use Rattle.std.specs.Prelude.{pos}
use Rattle.layout_params.specs.declared.cell.Cell.TheVariants.{Descr}
use Rattle.sil_model.specs.Access.{put_cell}
use Rattle.flow_clauses.specs.FlowClauses.{mstime}
use Rattle.sil_micro.proofs.Making.{by_option}
use Rattle.exp_common.proofs.Questions.{zero_within}
use Rattle.exp_control.proofs.Settings.{one_less}
use Rattle.exp_control.proofs.system.mstime.Goals as goal
use mir.Val.{SFits}
use mir.Syntax.{w64}

pub returns : goal.returns
unfolding mstime
returns c =
    let f_d : SFits w64 c.args.d = c.ranges.d in
    let stands = simp (to_z-of_z, c.begin_statement.ensures) at c.in_ok-append.ensures.appends in
    record {
      piece = _;
      stands = stands;
      is_piece = record { part = refl; begins = refl; once = refl; names = refl; quiet = refl; light = lit≤ tt };
      does = λ g program parameters u h.
          let m = u.state.memory in
          let few : u.state.steps < 2 ^ 62 = omega (arith, h.valid.steps) in
          let before = one_less u.state.steps few in
          by_option (put_cell m c.args.d (Descr (record { a = pos u.state.steps; f = 0; v = 0 }))) (λ none. record { fuel = 9; meets = simp (h.left, zero_within, before, none) (refl, refl, lit≤ tt) }) (λ cells put.
          record { fuel = 9; meets = simp (h.left, zero_within, before, put) (refl, lit≤ tt) });
    }
