use Rattle.std.proofs.Common.{rules, tests}
use Rattle.std.proofs.lemmas.List.{length-map}
use Rattle.std.proofs.lemmas.Iterator.{YieldsList-from_slice}
use Rattle.std.proofs.lemmas.Iterator.Search.{position_from_yields_List}
use Rattle.sil_base.specs.Names.{is_word}
use Rattle.sil_base.proofs.Searches.{position_or_len-map}
use Rattle.sil_base.proofs.words.index_of.Goals as goal

pub returns-clause-place : goal.returns-clause-place
returns-clause-place c =
    rw (position_or_len-map, length-map)
    (position_from_yields_List (λ word. is_word c.args.text.now word.now) _ _ c.position.result c.position.ensures.ran (YieldsList-from_slice c.args.words.now c.iter.ensures.rest) (λ x b q k. search (rules, tests)))
