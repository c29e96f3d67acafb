use Rattle.sil_micro.proofs.Parts.{alike}
use Rattle.sil_micro.proofs.laws.law_of_parts.Goals as goal

pub returns : goal.returns
returns c = λ g next front part inside fuel place u le. alike g next front part inside fuel place u le
