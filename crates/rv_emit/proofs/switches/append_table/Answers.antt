use Rattle.std.proofs.Common.{◌<◌, ◌≤◌, ◌++◌, length, sym, ap, ◌∙◌, arith}
use Rattle.rv_operations.specs.Switch.{led}
use Rattle.rv_emit.specs.Planned.{table_of}
use Rattle.rv_emit.proofs.Steps.{table_end, table_first, table_more}
use Rattle.rv_emit.proofs.switches.append_table.Goals as goal

pub loop-k-init : goal.loop-k-init
loop-k-init c = table_first c.args.plan.now.params.now.settings c.args.plan.now.code.now c.args.code.now.items c.args.switch c.args.routine c.requires.place

pub loop-k-preserved : goal.loop-k-preserved
loop-k-preserved c =
    let settings = c.args.plan.now.params.now.settings in
    let code = c.args.plan.now.code.now in
    let lt : c.loop-k.k < length code.entries = omega (arith, c.statements-k-end.ensures.value) in
    table_more settings code c.loop-k.code.items c.extend_from_slice.new.self.items (c.args.code.now.items ++ table_of settings code c.args.switch) c.args.switch c.args.routine c.loop-k.k c.led-to.result lt
    (c.led-to.ensures ∙ ap (led c.args.routine) c.lead.ensures)
    (c.in_ok-extend_from_slice.ensures.items ∙ ap (λ is. c.loop-k.code.items ++ is) c.leap.ensures)
    c.loop-k.invariant

pub returns : goal.returns
returns c =
    let settings = c.args.plan.now.params.now.settings in
    let code = c.args.plan.now.code.now in
    let le : length code.entries ≤ c.loop-k.k = omega (arith, c.statements-k-end.ensures.value) in
    sym (table_end settings code c.loop-k.code.items c.args.switch c.args.routine c.loop-k.k le) ∙ c.loop-k.invariant
