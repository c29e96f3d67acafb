use Rattle.std.proofs.Common.{refl}
use Rattle.sil_model.specs.CellWords.{kind_at, word_at}
use Rattle.sil_micro.specs.TableWords.{table_word}
use Rattle.rows_micro.proofs.Edges.{past_end, table_of_word}
use Rattle.rows_micro.proofs.operations.words_past_their_areas.Goals as goal

pub returns-clause-kind : goal.returns-clause-kind
unfolding kind_at
returns-clause-kind c = λ g u past. simp (past, past_end) refl

pub returns-clause-bytes : goal.returns-clause-bytes
unfolding word_at
returns-clause-bytes c = λ g u past. simp past refl

pub returns-clause-tables : goal.returns-clause-tables
unfolding table_word
returns-clause-tables c = λ g u past. simp (past, table_of_word, past_end) refl
