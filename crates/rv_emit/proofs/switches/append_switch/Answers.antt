use Rattle.std.proofs.Common.{◌+◌, sym, ap, ◌∙◌, arith}
use Rattle.layout_params.proofs.LegalLayouts.{legal}
use Rattle.rv_operations.specs.Switch.{switch_code}
use Rattle.rv_emit.specs.Planned.{routine_of}
use Rattle.rv_emit.proofs.Fronts.{switch_is, then_ok}
use Rattle.rv_emit.proofs.switches.append_switch.Goals as goal

pub overflow_cast-descr : goal.overflow_cast-descr
overflow_cast-descr g c =
    let h = legal (g.L.Layout.sizes c.args.layout.now) (g.met.L.Layout.legal c.args.layout.now) in
    record { fits = omega (arith, c.descr.ensures, h.most) }

pub routine_of-routine-requires-clause-d : goal.routine_of-routine-requires-clause-d
routine_of-routine-requires-clause-d g c =
    let h = legal (g.L.Layout.sizes c.args.layout.now) (g.met.L.Layout.legal c.args.layout.now) in
    omega (arith, c.descr.ensures, h.most)

pub routine_of-routine-requires-clause-statements : goal.routine_of-routine-requires-clause-statements
routine_of-routine-requires-clause-statements g c = omega (arith, c.statements-count.ensures.value, c.requires.plan.can.whole.few)

pub switch_code-requires-clause-count : goal.switch_code-requires-clause-count
switch_code-requires-clause-count g c = omega (arith, c.statements-count.ensures.value, c.requires.plan.can.whole.few)

pub append_table-requires-clause-place : goal.append_table-requires-clause-place
append_table-requires-clause-place g c =
    c.routine_of-routine.ensures.value
    ∙ ap (λ d. routine_of d c.statements-count.result c.args.switch) (c.descr.ensures ∙ ap (λ z. z.descr) c.requires.layout)
    ∙ ap (λ n. routine_of c.args.plan.now.params.now.settings.sizes.descr n c.args.switch) c.statements-count.ensures.value

pub returns : goal.returns
returns g c =
    let d = c.descr.ensures ∙ ap (λ z. z.descr) c.requires.layout in
    let code = c.switch_code.ensures ∙ ap (λ x. switch_code x c.statements-count.result c.routine_of-routine.result (c.routine_of-routine.result + 64)) (sym c.descr.ensures) in
    then_ok c.append_table.result c.append_table.ensures (λ e. switch_is c.args.plan.now.params.now.settings c.args.plan.now.code.now c.args.switch c.args.code.now.items c.extend_from_slice.new.self.items c.append_table.new.code.items c.switch_code.result c.descr.result c.statements-count.result c.routine_of-routine.result d c.statements-count.ensures.value c.routine_of-routine.ensures.value code c.in_ok-extend_from_slice.ensures.items e)
