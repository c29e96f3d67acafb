use Rattle.std.proofs.Common.{[], ◌∷◌, ◌++◌, ap, ◌∙◌}
use Rattle.rv_routines.specs.RoutineCodes.{zeros_code}
use Rattle.rv_routines.proofs.Appended.{one_more}
use Rattle.rv_routines.proofs.stores.append_zeros.Goals as goal

pub loop-k-preserved : goal.loop-k-preserved
loop-k-preserved c =
    c.in_ok-extend_from_slice.ensures.items
    ∙ ap (λ is. is ++ c.store_word.result ∷ []) c.loop-k.invariant
    ∙ ap (λ i. (c.args.code.now.items ++ zeros_code 0 c.loop-k.k) ++ i ∷ []) c.store_word.ensures
    ∙ one_more c.args.code.now.items c.loop-k.k
