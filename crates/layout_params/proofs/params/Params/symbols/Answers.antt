use Rattle.std.proofs.Common.{◌<◌, ◌^◌, List, ℕ, slice_index_or, subst, sym}
use Rattle.layout_params.proofs.SymbolLemmas.{symbols_small}
use Rattle.layout_params.proofs.params.Params.symbols.Goals as goal

pub invariant_of-result : goal.invariant_of-result
invariant_of-result c = λ i below.
    let P : List ℕ → Type 0 = λ values. slice_index_or values i 0 < 2 ^ 63 in
    subst P (sym c.symbol_values.ensures.values) (symbols_small c.args.self.now i c.symbol_values.ensures.legal below)
