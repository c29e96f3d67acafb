use Rattle.sil_format.proofs.Exact.{tested_spelled, spelled_tested}
use Rattle.sil_format.proofs.laws.law_of_formats.Goals as goal

pub returns-clause-formats : goal.returns-clause-formats
returns-clause-formats c bytes h = tested_spelled bytes h

pub returns-clause-tested : goal.returns-clause-tested
returns-clause-tested c bytes h = spelled_tested bytes h
