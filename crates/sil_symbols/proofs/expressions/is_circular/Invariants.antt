use Rattle.std.proofs.Common.{◌≡◌, drop}
use Rattle.std.specs.List.{list_any}
use Rattle.sil_symbols.specs.Expressions.{factor_names, is_circular}
use Rattle.sil_symbols.specs.HeldNames.{names_in}
use Rattle.sil_symbols.proofs.expressions.is_circular.Given as goal

abbrev pub invariant-loop-term : goal.invariant-loop-term
invariant-loop-term l =
    list_any (λ term. list_any (factor_names (λ name. is_circular (names_in l.names l.outcomes name))) term.factors) (drop l.term-index l.all) ≡ list_any (λ term. list_any (factor_names (λ name. is_circular (names_in l.names l.outcomes name))) term.factors) l.all
