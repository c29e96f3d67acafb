use Rattle.std.proofs.Common.{ap, ◌∙◌, arith}
use Rattle.layout_params.specs.Areas.{all_cells, empty_stack}
use Rattle.rv_emit.specs.Code.{natural_of}
use Rattle.rv_emit.proofs.Fronts.{front_is, start_is, then_ok}
use Rattle.rv_emit.proofs.front.append_front.Goals as goal

pub stack_top-top-requires : goal.stack_top-top-requires
stack_top-top-requires g c =
    omega (arith, ap (all_cells c.args.plan.now.params.now.settings) (c.from.ensures ∙ c.static_cells.ensures), c.requires.plan.can.cells)

pub returns : goal.returns
returns g c =
    let settings = c.args.plan.now.params.now.settings in
    let code = c.args.plan.now.code.now in
    let top = c.stack_top-top.ensures.value ∙ ap (λ n. natural_of (empty_stack settings n)) (c.from.ensures ∙ c.static_cells.ensures) in
    let start = start_is settings code c.args.code.now.items c.extend_from_slice.new.self.items c.start_code.result c.stack_top-top.result c.statement.result top c.statement.ensures c.start_code.ensures c.in_ok-extend_from_slice.ensures.items in
    then_ok c.append_switch-2.result c.append_switch-2.ensures (λ e. front_is settings code c.args.code.now.items c.extend_from_slice.new.self.items c.append_routines.new.code.items c.append_switch.new.code.items c.append_switch-2.new.code.items start c.in_ok-append_routines.ensures c.in_ok-append_switch.ensures e)
