use Rattle.std.proofs.Common.{◌≡◌, length, arith, subst, sym, ap, ◌∙◌}
use Rattle.sil_symbols.specs.NameValues.{meanings}
use Rattle.sil_symbols.specs.HeldNames.{names_in, AreSettling}
use Rattle.sil_symbols.proofs.Lists.{written_back}
use Rattle.sil_symbols.proofs.Rounds.{first_settling, settled_all}
use Rattle.sil_symbols.proofs.settling.settle.Goals as goal

pub settle_all-requires : goal.settle_all-requires
settle_all-requires c =
    let first = first_settling c.args.names.now c.args.statements.now c.args.addresses.now c.requires in
    ap length (c.deref_mut.ensures.value ∙ c.in_ok-outcomes.ensures) ∙ first.count

pub returns-clause-count : goal.returns-clause-count
returns-clause-count c =
    let new = c.settle_all.new.outcomes in
    let items = c.in_ok-outcomes.outcomes.items in
    let first = first_settling c.args.names.now c.args.statements.now c.args.addresses.now c.requires in
    let same : length new ≡ length items = c.settle_all.auto.outcomes ∙ ap length c.deref_mut.ensures.value in
    ap length (written_back new items c.in_ok-outcomes.outcomes.len same (omega (arith, c.in_ok-outcomes.outcomes.ok.0))) ∙ same ∙ ap length c.in_ok-outcomes.ensures ∙ first.count

pub returns-clause-outcomes : goal.returns-clause-outcomes
returns-clause-outcomes c = λ name.
    let names = c.args.names.now in
    let ss = c.args.statements.now in
    let labels = meanings c.args.addresses.now ss in
    let new = c.settle_all.new.outcomes in
    let items = c.in_ok-outcomes.outcomes.items in
    let first = first_settling names ss c.args.addresses.now c.requires in
    let same : length new ≡ length items = c.settle_all.auto.outcomes ∙ ap length c.deref_mut.ensures.value in
    let started : AreSettling names ss labels c.deref_mut.result.now = subst (AreSettling names ss labels) (sym (c.deref_mut.ensures.value ∙ c.in_ok-outcomes.ensures)) first in
    let done = c.settle_all.ensures labels started in
    ap (λ o. names_in names o name) (written_back new items c.in_ok-outcomes.outcomes.len same (omega (arith, c.in_ok-outcomes.outcomes.ok.0))) ∙ settled_all names ss labels new done.0 done.1 name
