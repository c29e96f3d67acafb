use Rattle.std.proofs.Common.{◌≡◌, drop, is_none}
use Rattle.std.specs.List.{list_any}
use Rattle.sil_symbols.specs.Expressions.{factor_names}
use Rattle.sil_symbols.specs.HeldNames.{origin_in}
use Rattle.sil_symbols.proofs.expressions.is_unknown.Given as goal

abbrev pub invariant-loop-term : goal.invariant-loop-term
invariant-loop-term l =
    list_any (λ term. list_any (factor_names (λ name. is_none (origin_in l.names name))) term.factors) (drop l.term-index l.all) ≡ list_any (λ term. list_any (factor_names (λ name. is_none (origin_in l.names name))) term.factors) l.all
