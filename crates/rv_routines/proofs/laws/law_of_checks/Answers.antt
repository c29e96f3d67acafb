use Rattle.rv_routines.proofs.Checking.{checks}
use Rattle.rv_routines.proofs.Fitting.{fits}
use Rattle.rv_routines.proofs.Opening.{opens}
use Rattle.rv_routines.proofs.laws.law_of_checks.Goals as goal

pub returns-clause-check : goal.returns-clause-check
returns-clause-check c = checks

pub returns-clause-fit : goal.returns-clause-fit
returns-clause-fit c = fits

pub returns-clause-open : goal.returns-clause-open
returns-clause-open c = opens
