use Rattle.std.proofs.Common.{◌≡◌, ◌++◌, drop, map}
use Rattle.sil_symbols.specs.NameValues.{meanings, first_outcome}
use Rattle.sil_symbols.proofs.settling.first_outcomes.Given as goal

abbrev pub invariant-loop-place : goal.invariant-loop-place
invariant-loop-place l =
    l.outcomes.items ++ map first_outcome (meanings (drop l.place l.addresses) (drop l.place l.statements)) ≡ map first_outcome (meanings l.addresses l.statements)
