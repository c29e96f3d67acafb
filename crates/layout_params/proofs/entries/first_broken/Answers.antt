use Rattle.std.proofs.Common.{rules, tests}
use Rattle.std.proofs.lemmas.List.{length-map}
use Rattle.std.proofs.lemmas.Iterator.{YieldsList-from_slice}
use Rattle.std.proofs.lemmas.Iterator.Search.{position_from_yields_List}
use Rattle.layout_params.specs.ParameterLines.{breaks_form}
use Rattle.sil_base.proofs.Searches.{position_or_len-map}
use Rattle.layout_params.proofs.entries.first_broken.Goals as goal

pub returns-clause-place : goal.returns-clause-place
returns-clause-place c =
    rw (position_or_len-map, length-map)
    (position_from_yields_List (λ line. breaks_form line.now) _ _ c.position.result c.position.ensures.ran (YieldsList-from_slice c.args.lines.now c.iter.ensures.rest) (λ x b q k. search (rules, tests)))
