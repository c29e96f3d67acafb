use Rattle.layout_params.proofs.LegalLemmas.{legal_faultless, faultless_legal}
use Rattle.layout_params.proofs.laws.legal_values_break_no_rule.Goals as goal

pub returns-clause-none : goal.returns-clause-none
returns-clause-none c = legal_faultless

pub returns-clause-legal : goal.returns-clause-legal
returns-clause-legal c = faultless_legal
