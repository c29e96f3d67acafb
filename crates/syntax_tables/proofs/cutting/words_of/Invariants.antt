use Rattle.std.proofs.Common.{◌≡◌, ◌++◌, length}
use Rattle.sil_base.specs.Names.{texts_of}
use Rattle.syntax_tables.specs.TableTexts.{words_of}
use Rattle.syntax_tables.proofs.cutting.words_of.Given as goal

abbrev pub invariant-loop-word : goal.invariant-loop-word
invariant-loop-word l = words_of l.line ≡ texts_of l.words.items ++ words_of l.rest

abbrev pub decreases-loop-word : goal.decreases-loop-word
decreases-loop-word l = length l.rest
