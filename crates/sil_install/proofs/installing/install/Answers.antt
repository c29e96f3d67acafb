use Rattle.std.proofs.Common.{subst}
use Rattle.std.specs.Prelude.{IfOk}
use Rattle.sil_check.specs.CheckedPrograms.{Job}
use Rattle.sil_install.specs.Installed.{IsInstalled}
use Rattle.sil_install.proofs.Whole.{installed}
use Rattle.sil_install.proofs.installing.install.Goals as goal

pub image_of-requires-clause-expanded : goal.image_of-requires-clause-expanded
image_of-requires-clause-expanded c = c.law_of_built_programs.ensures c.checked.inside.program c.checked.invariant.built

pub returns : goal.returns
returns c =
    let h = c.in_ok-image.ensures in
    subst (λ (j : Job). IfOk c.write_image.result (λ b. IsInstalled b.items j.program j.parameters)) c.checked.view_is
    (installed c.checked.inside.program c.checked.inside.params c.in_ok-image.image c.write_image.result h.is_image h.of h.behaves c.write_image.ensures)
