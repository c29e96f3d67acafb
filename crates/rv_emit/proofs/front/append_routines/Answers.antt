use Rattle.std.proofs.Common.{ap, ◌∙◌, arith}
use Rattle.layout_params.specs.Areas.{all_cells}
use Rattle.rv_emit.proofs.Fronts.{routine_parts, routines_are, then_ok}
use Rattle.rv_emit.proofs.front.append_routines.Goals as goal

pub all_cells-cells-requires : goal.all_cells-cells-requires
all_cells-cells-requires g c =
    omega (arith, ap (all_cells c.args.plan.now.params.now.settings) (c.from.ensures ∙ c.static_cells.ensures), c.requires.plan.can.cells)

pub overflow_cast-cells : goal.overflow_cast-cells
overflow_cast-cells g c =
    record { fits = omega (arith, c.all_cells-cells.ensures, ap (all_cells c.args.plan.now.params.now.settings) (c.from.ensures ∙ c.static_cells.ensures), c.requires.plan.can.cells) }

pub append_checks-requires : goal.append_checks-requires
append_checks-requires g c =
    omega (arith, c.all_cells-cells.ensures, ap (all_cells c.args.plan.now.params.now.settings) (c.from.ensures ∙ c.static_cells.ensures), c.requires.plan.can.cells)

pub append_tests-requires : goal.append_tests-requires
append_tests-requires g c =
    omega (arith, c.all_cells-cells.ensures, ap (all_cells c.args.plan.now.params.now.settings) (c.from.ensures ∙ c.static_cells.ensures), c.requires.plan.can.cells)

pub append_stores-requires : goal.append_stores-requires
append_stores-requires g c =
    omega (arith, c.all_cells-cells.ensures, ap (all_cells c.args.plan.now.params.now.settings) (c.from.ensures ∙ c.static_cells.ensures), c.requires.plan.can.cells)

pub returns : goal.returns
returns g c =
    let settings = c.args.plan.now.params.now.settings in
    let n = c.all_cells-cells.ensures ∙ ap (all_cells settings) (c.from.ensures ∙ c.static_cells.ensures) in
    then_ok c.append_stores.result c.append_stores.ensures (λ e. routines_are settings c.args.plan.now.code.now (g.L.Layout.sizes c.args.layout.now) c.all_cells-cells.result c.args.code.now.items c.append_stores.new.code.items c.requires.layout n (routine_parts (g.L.Layout.sizes c.args.layout.now) c.all_cells-cells.result c.args.code.now.items c.append_checks.new.code.items c.append_tests.new.code.items c.append_stores.new.code.items c.in_ok-append_checks.ensures c.in_ok-append_tests.ensures e))
