use Rattle.std.proofs.Common.{rules, tests}
use Rattle.std.specs.Prelude.{is_some}
use Rattle.std.proofs.lemmas.Iterator.{YieldsList-from_slice}
use Rattle.std.proofs.lemmas.Iterator.Search.{all_from_yields_List}
use Rattle.std.proofs.lemmas.List.Folds.{list_all-map}
use Rattle.layout_params.specs.Entries.{entry_named}
use Rattle.layout_params.specs.HeldEntries.{entries_held}
use Rattle.layout_params.proofs.entries.are_named.Goals as goal

pub returns : goal.returns
returns c =
    rw list_all-map
    (all_from_yields_List (λ name. is_some (entry_named (entries_held c.args.entries.now) name.now)) _ _ c.all.result c.all.ensures.ran (YieldsList-from_slice c.args.names.now c.iter.ensures.rest) (λ x b q k. search (rules, tests)))
