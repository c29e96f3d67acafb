use Rattle.std.proofs.Common.{◌≡◌, drop, pos}
use Rattle.sil_symbols.specs.declared.outcome.Outcome.TheVariants.{Value}
use Rattle.sil_symbols.specs.Expressions.{product}
use Rattle.sil_symbols.specs.HeldNames.{names_in}
use Rattle.sil_symbols.proofs.expressions.term_outcome.Given as goal

abbrev pub invariant-loop-factor : goal.invariant-loop-factor
invariant-loop-factor l =
    product (names_in l.names l.outcomes) l.outcome (drop l.factor-index l.factors) ≡ product (names_in l.names l.outcomes) (Value (pos 1)) l.factors
