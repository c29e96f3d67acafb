use Rattle.std.proofs.Common.{◌≡◌, drop, pos}
use Rattle.sil_symbols.specs.declared.outcome.Outcome.TheVariants.{Value}
use Rattle.sil_symbols.specs.Expressions.{total}
use Rattle.sil_symbols.specs.HeldNames.{names_in}
use Rattle.sil_symbols.proofs.expressions.outcome_of.Given as goal

abbrev pub invariant-loop-term : goal.invariant-loop-term
invariant-loop-term l =
    total (names_in l.names l.outcomes) l.outcome (drop l.term-index l.all) ≡ total (names_in l.names l.outcomes) (Value (pos 0)) l.all
