use Rattle.std.proofs.Common.{◌≡◌, length, ap, arith, subst}
use Rattle.macro_expand.proofs.Costs.{makes_step}
use Rattle.macro_expand.proofs.Growing.{statement_at, SoFar}
use Rattle.macro_expand.proofs.Locating.{few_formats, few_items, formats_there, located, small_code, specials_among}
use Rattle.macro_expand.proofs.Running.{runs_to}
use Rattle.macro_expand.proofs.Stepping.{step}
use Rattle.macro_expand.proofs.Whole.{whole}
use Rattle.macro_expand.proofs.expansion.expand_all.Goals as goal

pub expand-requires-clause-locations : goal.expand-requires-clause-locations
expand-requires-clause-locations c =
    located c.args.program.now c.args.params.now.settings c.loop-k.k (length c.loop-k.code.entries) c.index-statements-k.result c.requires.well_formed.rows
    (statement_at c.args.program.now c.items-statements.result.now c.loop-k.k c.index-statements-k.result c.items-statements.ensures c.loop-k-test.true c.index-statements-k.is) c.loop-k.invariant.statements

pub expand-requires-clause-items : goal.expand-requires-clause-items
expand-requires-clause-items c =
    few_items c.args.program.now c.args.params.now.settings c.loop-k.k c.index-statements-k.result c.requires.well_formed.rows
    (statement_at c.args.program.now c.items-statements.result.now c.loop-k.k c.index-statements-k.result c.items-statements.ensures c.loop-k-test.true c.index-statements-k.is)

pub expand-requires-clause-among : goal.expand-requires-clause-among
expand-requires-clause-among c = specials_among c.args.program.now c.args.params.now.settings (length c.loop-k.code.entries) c.requires.well_formed.specials c.loop-k.invariant.statements

pub expand-requires-clause-value : goal.expand-requires-clause-value
expand-requires-clause-value c = small_code c.args.program.now c.args.params.now.settings c.requires.well_formed.specials

pub expand-requires-clause-formats : goal.expand-requires-clause-formats
expand-requires-clause-formats c =
    formats_there c.args.program.now c.args.params.now.settings c.loop-k.k c.loop-k.code.formats c.index-statements-k.result c.requires.well_formed.rows
    (statement_at c.args.program.now c.items-statements.result.now c.loop-k.k c.index-statements-k.result c.items-statements.ensures c.loop-k-test.true c.index-statements-k.is) c.loop-k.invariant.formats

pub expand-requires-clause-few_formats : goal.expand-requires-clause-few_formats
expand-requires-clause-few_formats c = few_formats c.args.program.now c.args.params.now.settings c.loop-k.code.formats c.requires.well_formed c.loop-k.invariant.formats

pub loop-k-preserved : goal.loop-k-preserved
loop-k-preserved c =
    let there = statement_at c.args.program.now c.items-statements.result.now c.loop-k.k c.index-statements-k.result c.items-statements.ensures c.loop-k-test.true c.index-statements-k.is in
    step c.args.program.now c.loop-k.k c.loop-k.code c.expand.new.code c.index-statements-k.result c.loop-k.invariant (omega (arith, c.loop-k-test.true, ap length c.items-statements.ensures)) there c.in_ok-expand.ensures

pub returns-clause-expansion : goal.returns-clause-expansion
returns-clause-expansion c =
    let all : c.loop-k.k ≡ length c.args.program.now.statements = omega (arith, c.loop-k-test.false, c.loop-k.auto.k-end, ap length c.items-statements.ensures) in
    whole c.args.program.now c.loop-k.code c.requires.well_formed.statements (subst (λ k. SoFar c.args.program.now k c.loop-k.code) all c.loop-k.invariant)

pub returns-clause-runs : goal.returns-clause-runs
returns-clause-runs c = λ tapes n few.
    runs_to c.args.program.now c.args.params.now c.loop-k.code (returns-clause-expansion c) c.requires.well_formed (c.law_of_steps.ensures c.args.program.now c.args.params.now c.requires.well_formed) c.law_on_ways.ensures.ways c.law_on_ways.ensures.meeting n few tapes

pub returns-clause-costs : goal.returns-clause-costs
returns-clause-costs c = λ n few k statement u there valid left.
    makes_step c.args.program.now c.args.params.now c.loop-k.code (returns-clause-expansion c) c.requires.well_formed (c.law_of_steps.ensures c.args.program.now c.args.params.now c.requires.well_formed) c.law_on_ways.ensures.ways c.law_on_ways.ensures.meeting n few k statement there u valid left
