use Rattle.std.proofs.Common.{◌≡◌, drop}
use Rattle.std.specs.List.{list_any}
use Rattle.sil_symbols.specs.Expressions.{factor_names, is_circular}
use Rattle.sil_symbols.specs.HeldNames.{names_in}
use Rattle.sil_symbols.proofs.expressions.term_is_circular.Given as goal

abbrev pub invariant-loop-factor : goal.invariant-loop-factor
invariant-loop-factor l =
    list_any (factor_names (λ name. is_circular (names_in l.names l.outcomes name))) (drop l.factor-index l.factors) ≡ list_any (factor_names (λ name. is_circular (names_in l.names l.outcomes name))) l.factors
