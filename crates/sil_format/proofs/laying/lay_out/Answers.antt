use Rattle.std.proofs.Common.{◌≡◌, subst, sym}
use Rattle.std.proofs.lemmas.Result.{IfOk-weaker}
use Rattle.sil_format.specs.Records.{KeepsLimit, records_of}
use Rattle.sil_format.proofs.LimitLemmas.{records_keep}
use Rattle.sil_format.proofs.laying.lay_out.Goals as goal

pub returns-clause-limit : goal.returns-clause-limit
returns-clause-limit c =
    IfOk-weaker c.laid_by.result (λ laid. laid ≡ records_of c.items.result.now c.args.values.now) KeepsLimit
    (λ laid h. subst KeepsLimit (sym h) (records_keep c.items.result.now c.args.values.now))
    c.laid_by.ensures
