use Rattle.rv_operations.proofs.CharOps.{loads_char, stores_char}
use Rattle.rv_operations.proofs.laws.law_of_characters.Goals as goal

pub returns-clause-load : goal.returns-clause-load
returns-clause-load c = loads_char

pub returns-clause-store : goal.returns-clause-store
returns-clause-store c = stores_char
