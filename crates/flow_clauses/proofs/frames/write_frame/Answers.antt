use Rattle.std.proofs.Common.{ap, sym, ◌∙◌, length}
use Rattle.std.proofs.lemmas.Int.{to_z-of_z}
use Rattle.sil_model.specs.Integers.{◌⊞◌}
use Rattle.sil_model.specs.Lists.{all_written, line}
use Rattle.flow_clauses.proofs.TwoMore.{first_stops, second_goes}
use Rattle.flow_clauses.proofs.frames.write_frame.Goals as goal
use mir.Val.{SFits}
use mir.Syntax.{w64}

pub returns-in_err-set_descr-clause-writes : goal.returns-in_err-set_descr-clause-writes
returns-in_err-set_descr-clause-writes c =
    let f_step : SFits w64 c.step_up-step.result = record { sfits = c.step_up-step.type_inv } in
    let f_first : SFits w64 c.sum-first.result = record { sfits = c.sum-first.type_inv } in
    let f_top : SFits w64 c.args.top = c.ranges.top in
    let f_saved : SFits w64 c.args.saved = c.ranges.saved in
    let first = simp to_z-of_z at c.sum-first.ensures in
    let wrote = simp to_z-of_z at c.in_err-set_descr.ensures.writes in
    rw c.from_residual.ensures (first_stops _ _ _ _ (length c.args.arguments.now) _ _ _ (first ∙ ap (λ z. c.args.top ⊞ z) c.step_up-step.ensures) wrote)

pub returns-in_err-set_descr-2-clause-writes : goal.returns-in_err-set_descr-2-clause-writes
returns-in_err-set_descr-2-clause-writes c =
    let f_step : SFits w64 c.step_up-step.result = record { sfits = c.step_up-step.type_inv } in
    let f_first : SFits w64 c.sum-first.result = record { sfits = c.sum-first.type_inv } in
    let f_second : SFits w64 c.sum-second.result = record { sfits = c.sum-second.type_inv } in
    let f_top : SFits w64 c.args.top = c.ranges.top in
    let f_saved : SFits w64 c.args.saved = c.ranges.saved in
    let f_entry : SFits w64 c.args.entry = c.ranges.entry in
    let first = simp to_z-of_z at c.sum-first.ensures in
    let second = simp to_z-of_z at c.sum-second.ensures in
    let wrote = simp to_z-of_z at c.in_ok-set_descr.ensures.writes in
    let then = simp to_z-of_z at c.in_err-set_descr-2.ensures.writes in
    rw c.from_residual-in_err-set_descr-2.ensures (second_goes _ _ _ _ _ _ (length c.args.arguments.now) _ _ _ _ (first ∙ ap (λ z. c.args.top ⊞ z) c.step_up-step.ensures) (second ∙ ap (λ z. c.sum-first.result ⊞ z) c.step_up-step.ensures) wrote then)

pub returns-clause-writes : goal.returns-clause-writes
returns-clause-writes c =
    let n = length c.args.arguments.now in
    let f_step : SFits w64 c.step_up-step.result = record { sfits = c.step_up-step.type_inv } in
    let f_first : SFits w64 c.sum-first.result = record { sfits = c.sum-first.type_inv } in
    let f_second : SFits w64 c.sum-second.result = record { sfits = c.sum-second.type_inv } in
    let f_third : SFits w64 c.sum.result = record { sfits = c.sum.type_inv } in
    let f_top : SFits w64 c.args.top = c.ranges.top in
    let f_saved : SFits w64 c.args.saved = c.ranges.saved in
    let f_entry : SFits w64 c.args.entry = c.ranges.entry in
    let first = simp to_z-of_z at c.sum-first.ensures in
    let second = simp to_z-of_z at c.sum-second.ensures in
    let third = simp to_z-of_z at c.sum.ensures in
    let wrote = simp to_z-of_z at c.in_ok-set_descr.ensures.writes in
    let then = simp to_z-of_z at c.in_ok-set_descr-2.ensures.writes in
    let lined = simp to_z-of_z at c.line-places.ensures in
    let places = lined ∙ ap (λ z. line z c.step_up-step.result n) third ∙ ap (λ z. line (c.sum-second.result ⊞ z) z n) c.step_up-step.ensures in
    second_goes _ _ _ _ _ _ n _ _ _ _ (first ∙ ap (λ z. c.args.top ⊞ z) c.step_up-step.ensures) (second ∙ ap (λ z. c.sum-first.result ⊞ z) c.step_up-step.ensures) wrote then
    ∙ ap (λ l. all_written c.set_descr-2.new.self l c.args.arguments.now) (sym places) ∙ c.write_all.ensures.writes
