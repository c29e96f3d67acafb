use Rattle.layout_params.proofs.PackingLemmas.{a-written, f-written, v-written, PacksDescr-one}
use Rattle.layout_params.proofs.laws.fields_are_apart.Goals as goal

pub returns-clause-writes_of_a : goal.returns-clause-writes_of_a
returns-clause-writes_of_a c = a-written

pub returns-clause-writes_of_f : goal.returns-clause-writes_of_f
returns-clause-writes_of_f c = f-written

pub returns-clause-writes_of_v : goal.returns-clause-writes_of_v
returns-clause-writes_of_v c = v-written

pub returns-clause-reads : goal.returns-clause-reads
returns-clause-reads c = PacksDescr-one
