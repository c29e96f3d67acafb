use Rattle.rv_routines.proofs.Below.{below}
use Rattle.rv_routines.proofs.KindBytes.{sets_kind}
use Rattle.rv_routines.proofs.StateWords.{sets_state}
use Rattle.rv_routines.proofs.laws.law_of_numbers.Goals as goal

pub returns-clause-below : goal.returns-clause-below
returns-clause-below c = below

pub returns-clause-kind : goal.returns-clause-kind
returns-clause-kind c = sets_kind

pub returns-clause-state : goal.returns-clause-state
returns-clause-state c = sets_state
