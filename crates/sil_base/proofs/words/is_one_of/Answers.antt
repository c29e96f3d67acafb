use Rattle.std.proofs.Common.{rules, tests}
use Rattle.std.proofs.lemmas.Iterator.{YieldsList-from_slice}
use Rattle.std.proofs.lemmas.Iterator.Search.{any_from_yields_List}
use Rattle.sil_base.specs.Names.{is_word}
use Rattle.sil_base.proofs.Searches.{list_any-map}
use Rattle.sil_base.proofs.words.is_one_of.Goals as goal

pub returns : goal.returns
returns c =
    rw list_any-map
    (any_from_yields_List (λ word. is_word c.args.text.now word.now) _ _ c.any.result c.any.ensures.ran (YieldsList-from_slice c.args.words.now c.iter.ensures.rest) (λ x b q k. search (rules, tests)))
