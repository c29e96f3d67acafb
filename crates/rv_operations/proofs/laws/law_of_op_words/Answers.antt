use Rattle.rv_operations.proofs.OpWords.{words}
use Rattle.rv_operations.proofs.laws.law_of_op_words.Goals as goal

pub returns : goal.returns
returns c = words
