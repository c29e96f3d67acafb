use Rattle.std.proofs.Common.{◌≡◌, ◌∙◌, sym, true}
use Rattle.sil_program.specs.Verdicts.{is_built_source}
use Rattle.sil_program.proofs.VerdictLemmas.{answered, stopped, answers_stop}
use Rattle.sil_program.proofs.source.make_program.Goals as goal

pub returns-in_err-program-clause-verdict : goal.returns-in_err-program-clause-verdict
returns-in_err-program-clause-verdict c =
    let source = c.args.bound.now.source in
    let lines = c.args.bound.now.tables.now in
    let all_built : is_built_source source.statements.now ≡ true = sym c.is_built_source.ensures ∙ c.if-not-is_built_source.false in
    let told = stopped source.params.now source.statements.now lines c.args.cells.items c.requires.cells c.in_err-program.field-0.0 all_built c.in_err-program.ensures.program in
    answers_stop _ c.from_residual.result c.in_err-program.field-0.0 c.from_residual.ensures.1 told

pub returns-clause-verdict : goal.returns-clause-verdict
returns-clause-verdict c =
    let source = c.args.bound.now.source in
    let lines = c.args.bound.now.tables.now in
    let all_built : is_built_source source.statements.now ≡ true = sym c.is_built_source.ensures ∙ c.if-not-is_built_source.false in
    answered source.params.now source.statements.now lines c.args.cells.items c.requires.cells c.in_ok-program.program all_built c.in_ok-program.ensures.program
