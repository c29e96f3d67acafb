use Rattle.sil_model.proofs.AccessProofs.{access}
use Rattle.sil_model.proofs.laws.law_of_access.Goals as goal

pub returns : goal.returns
returns c = access
