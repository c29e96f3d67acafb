use Rattle.std.proofs.Common.{◌∙◌, ap, length}
use Rattle.layout_params.specs.Areas.{all_cells}
use Rattle.sil_check.specs.CheckedPrograms.{Job}
use Rattle.sil_cli.proofs.Commands.{residual, performs-stopped, performs-checked}
use Rattle.sil_cli.proofs.command.check_source.Goals as goal

pub returns-in_err-checked : goal.returns-in_err-checked
returns-in_err-checked g c = λ units.
    residual _ _ _ _ _ _ _ _ _ c.from_residual.ensures.1
    (performs-stopped _ _ _ _ _ _ units c.in_err-checked.ensures.kept c.in_err-checked.ensures.told c.in_err-checked.ensures.count c.in_err-checked.ensures.cause)

pub returns : goal.returns
returns g c = λ units.
    performs-checked _ c.in_ok-checked.checked _ _ _ _ _ _ units
    (ap (λ is. length is) c.items-statements.ensures ∙ ap (λ (job : Job). length job.program.statements) c.checked.view_is)
    (c.all_cells.ensures
    ∙ ap (λ s. all_cells s (length c.items-statics.result.now)) c.settings.ensures.value
    ∙ ap (λ is. all_cells c.checked.inside.params.settings (length is)) c.items-statics.ensures
    ∙ ap (λ (job : Job). all_cells job.parameters.settings (length job.program.cells)) c.checked.view_is)
    c.in_ok-checked.ensures.kept c.in_ok-checked.ensures.told c.in_ok-checked.ensures.count
