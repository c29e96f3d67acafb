use Rattle.std.proofs.Common.{◌≡◌, drop}
use Rattle.std.specs.List.{list_any}
use Rattle.sil_symbols.specs.Expressions.{outcome_of}
use Rattle.sil_symbols.specs.SymbolRules.{is_no_value}
use Rattle.sil_symbols.specs.HeldNames.{terms_of, names_in}
use Rattle.sil_symbols.proofs.rules.some_valueless.Given as goal

abbrev pub invariant-loop-terms : goal.invariant-loop-terms
invariant-loop-terms l =
    list_any (λ terms. is_no_value (outcome_of (names_in l.names l.outcomes) terms)) (terms_of (drop l.terms-index l.expressions))
    ≡ list_any (λ terms. is_no_value (outcome_of (names_in l.names l.outcomes) terms)) (terms_of l.expressions)
