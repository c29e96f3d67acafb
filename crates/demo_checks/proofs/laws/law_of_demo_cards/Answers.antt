use Rattle.demo_checks.proofs.CardsRead.{demo_cards_of}
use Rattle.demo_checks.proofs.laws.law_of_demo_cards.Goals as goal

pub returns : goal.returns
returns c = demo_cards_of c.what_is_spelled_is_read.ensures
