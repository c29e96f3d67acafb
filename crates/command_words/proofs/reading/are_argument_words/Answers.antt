use Rattle.std.proofs.Common.{rules, tests}
use Rattle.std.specs.String.{string_bytes}
use Rattle.std.proofs.lemmas.Iterator.{YieldsList-from_slice}
use Rattle.std.proofs.lemmas.Iterator.Search.{all_from_yields_List}
use Rattle.std.proofs.lemmas.List.Folds.{list_all-map}
use Rattle.command_words.specs.CommandOrders.{is_argument}
use Rattle.command_words.proofs.reading.are_argument_words.Goals as goal

pub returns : goal.returns
returns c =
    rw list_all-map
    (all_from_yields_List (λ word. is_argument (string_bytes word)) _ _ c.all.result c.all.ensures.ran (YieldsList-from_slice c.args.words.now c.iter.ensures.rest) (λ x b q k. search (rules, tests)))
