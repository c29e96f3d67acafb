use Rattle.std.proofs.Common.{◌≡◌, [], length, ap, sym, arith, ◌∙◌}
use Rattle.std.proofs.lemmas.Grind.{common_steps}
use Rattle.data_asm.proofs.CountLemmas.{static_count, clean}
use Rattle.data_asm.proofs.assembly.assemble.Goals as goal

pub static_cells-requires-clause-few : goal.static_cells-requires-clause-few
static_cells-requires-clause-few c =
    let p = c.args.params.now in
    let source = c.args.statements.now in
    let count = static_count p source (c.law_of_sizes.ensures p source c.requires.faultless) in
    omega (arith, count, c.requires.limits.cells)

pub static_cells-requires-clause-fit : goal.static_cells-requires-clause-fit
static_cells-requires-clause-fit c =
    let none : c.in_ok-faults.faults.items ≡ [] = grind (arith, common_steps) in
    let (fit, formatted) = clean c.args.params.now c.args.statements.now (sym c.in_ok-faults.ensures ∙ none) in
    fit

pub returns-clause-formats : goal.returns-clause-formats
returns-clause-formats c =
    let none : c.in_ok-faults.faults.items ≡ [] = grind (arith, common_steps) in
    let (fit, formatted) = clean c.args.params.now c.args.statements.now (sym c.in_ok-faults.ensures ∙ none) in
    formatted

pub returns-clause-count : goal.returns-clause-count
returns-clause-count c =
    let p = c.args.params.now in
    let source = c.args.statements.now in
    let count = static_count p source (c.law_of_sizes.ensures p source c.requires.faultless) in
    ap length c.in_ok-static_cells.ensures.cells ∙ count
