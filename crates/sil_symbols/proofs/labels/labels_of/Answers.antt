use Rattle.std.proofs.Common.{ap, ◌∙◌, arith, sym, Option, Some, None, if◌then◌else◌, ℕ}
use Rattle.std.specs.Option.{option_or}
use Rattle.sil_symbols.specs.Labels.{defines}
use Rattle.sil_symbols.proofs.LabelLemmas.{labelled-more}
use Rattle.sil_symbols.proofs.labels.labels_of.Goals as goal

pub loop-place-preserved : goal.loop-place-preserved
loop-place-preserved c = λ name.
    let s = c.index-statements-place.result in
    let added : Option ℕ = if defines name s then Some c.loop-place.place else None in
    c.in_ok-add_label.ensures name ∙ ap (λ o. option_or o added) (c.loop-place.invariant name)
    ∙ sym (labelled-more c.args.statements.now c.loop-place.place s name (omega arith) c.index-statements-place.is)
