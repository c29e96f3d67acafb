use Rattle.std.proofs.Common.{rules, ◌<◌, ◌^◌, ◌∙◌, Some, slice_index_or, ap, sym, w64}
use Rattle.std.proofs.lemmas.Int.{to_z_pos}
use Rattle.layout_params.specs.ParameterSymbols.{symbol_in}
use Rattle.layout_params.proofs.SymbolLemmas.{symbol_here}
use Rattle.layout_params.proofs.symbols.ParamSymbols.value.Goals as goal

pub overflow_cast-result : goal.overflow_cast-result
overflow_cast-result c =
    let small = c.self.invariant c.in-Some.at c.in-Some.ensures.within in
    search (rules, small)

pub returns-in-Some : goal.returns-in-Some
returns-in-Some c =
    let values = c.self.inside.values in
    let small : slice_index_or values c.in-Some.at 0 < 2 ^ 63 = c.self.invariant c.in-Some.at c.in-Some.ensures.within in
    ap Some (to_z_pos w64 (slice_index_or values c.in-Some.at 0) small)
    ∙ sym (symbol_here values c.args.name.now c.in-Some.at c.in-Some.ensures.place)
    ∙ ap (λ vs. symbol_in vs c.args.name.now) c.self.view_is
