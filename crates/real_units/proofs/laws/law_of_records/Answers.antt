use Rattle.real_units.proofs.Texts.{records_in-text_of}
use Rattle.real_units.proofs.laws.law_of_records.Goals as goal

pub returns : goal.returns
returns c = records_in-text_of
