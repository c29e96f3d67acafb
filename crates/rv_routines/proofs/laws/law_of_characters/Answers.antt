use Rattle.rv_routines.proofs.Characters.{characters, words}
use Rattle.rv_routines.proofs.Making.{makes}
use Rattle.rv_routines.proofs.laws.law_of_characters.Goals as goal

pub returns-clause-chars : goal.returns-clause-chars
returns-clause-chars c = characters

pub returns-clause-words : goal.returns-clause-words
returns-clause-words c = words

pub returns-clause-make : goal.returns-clause-make
returns-clause-make c = makes
