use Rattle.sil_cli.proofs.Commands.{keeps-saved}
use Rattle.sil_cli.proofs.command.install_and_save.Goals as goal

pub returns-clause-leaves : goal.returns-clause-leaves
returns-clause-leaves g c = keeps-saved _ _ _ _ _ c.save.result _ _ c.in_ok-image.ensures.kept c.in_ok-image.ensures.told c.save.ensures.saved
