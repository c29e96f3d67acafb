use Rattle.sil_install.proofs.Alike.{law}
use Rattle.sil_install.proofs.law.law_of_installed_images.Goals as goal

pub returns : goal.returns
returns c = law
