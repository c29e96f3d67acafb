use Rattle.std.proofs.Common.{◌≡◌, ap, ◌∙◌}
use Rattle.sil_symbols.specs.Symbols.{size_names, extent}
use Rattle.sil_symbols.specs.HeldNames.{names_in}
use Rattle.sil_symbols.proofs.SymbolLemmas.{length_addresses, sizes_are, outcomes_are, extent_is}
use Rattle.sil_symbols.proofs.symbols.outcomes_of.Goals as goal

pub settle-requires-2 : goal.settle-requires-2
settle-requires-2 c = length_addresses c.descr-descr.result (names_in c.args.names.now c.deref-3.result.now) c.args.statements.now c.in_ok-addresses.addresses.items c.deref-5.result.now c.in_ok-addresses.ensures.0 c.deref-5.ensures.value

pub returns : goal.returns
returns c = λ holds.
    let p = c.args.params.now in
    let ss = c.args.statements.now in
    let names = c.args.names.now in
    let descr_is : c.descr-descr.result ≡ p.settings.sizes.descr = c.descr-descr.ensures ∙ ap (λ s. s.descr) c.numbers.ensures.sizes in
    let sizes = sizes_are p ss names holds c.deref-2.result.now c.in_ok-sizes.sizes.items (c.deref-2.ensures.value ∙ c.in_ok-none.ensures) c.in_ok-sizes.ensures.outcomes in
    let seen : names_in names c.deref-3.result.now ≡ size_names p ss = ap (names_in names) c.deref-3.ensures.value ∙ sizes in
    record {
      sizes = sizes;
      outcomes = outcomes_are p ss names holds c.descr-descr.result c.deref-3.result.now descr_is seen c.deref-5.result.now c.in_ok-outcomes.outcomes.items (c.deref-5.ensures.value ∙ c.in_ok-addresses.ensures.0) c.in_ok-outcomes.ensures.outcomes;
      over = c.is_past.ensures (extent p ss) (extent_is p ss names holds c.descr-descr.result c.deref-3.result.now descr_is seen c.in_ok-addresses.extent c.in_ok-addresses.ensures.1);
    }
