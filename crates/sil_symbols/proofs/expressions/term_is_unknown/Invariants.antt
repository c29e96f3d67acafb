use Rattle.std.proofs.Common.{◌≡◌, drop, is_none}
use Rattle.std.specs.List.{list_any}
use Rattle.sil_symbols.specs.Expressions.{factor_names}
use Rattle.sil_symbols.specs.HeldNames.{origin_in}
use Rattle.sil_symbols.proofs.expressions.term_is_unknown.Given as goal

abbrev pub invariant-loop-factor : goal.invariant-loop-factor
invariant-loop-factor l =
    list_any (factor_names (λ name. is_none (origin_in l.names name))) (drop l.factor-index l.factors) ≡ list_any (factor_names (λ name. is_none (origin_in l.names name))) l.factors
