use Rattle.std.proofs.Common.{◌≡◌, drop, is_none}
use Rattle.std.specs.List.{list_any}
use Rattle.sil_symbols.specs.Expressions.{some_name}
use Rattle.sil_symbols.specs.HeldNames.{terms_of, origin_in}
use Rattle.sil_symbols.proofs.rules.some_unknown.Given as goal

abbrev pub invariant-loop-terms : goal.invariant-loop-terms
invariant-loop-terms l =
    list_any (some_name (λ name. is_none (origin_in l.names name))) (terms_of (drop l.terms-index l.expressions)) ≡ list_any (some_name (λ name. is_none (origin_in l.names name))) (terms_of l.expressions)
