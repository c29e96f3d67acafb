use Rattle.std.proofs.Common.{◌∙◌}
use Rattle.sil_cli.proofs.Commands.{residual, performs-unsaved, performs-installed}
use Rattle.sil_cli.proofs.command.install_source.Goals as goal

pub returns-in_err-image : goal.returns-in_err-image
returns-in_err-image g c = λ units.
    residual _ _ _ _ _ _ _ _ _ c.from_residual.ensures.1
    (performs-unsaved _ _ _ _ _ _ units c.in_err-image.ensures.told c.in_err-image.ensures.leaves c.in_err-image.ensures.count c.in_err-image.ensures.cause)

pub returns : goal.returns
returns g c = λ units. rw (c.len.ensures ∙ c.in_ok-image.image.ok.0) (performs-installed _ _ _ _ _ _ _ units c.in_ok-image.ensures.told c.in_ok-image.ensures.leaves c.in_ok-image.ensures.count)
