use Rattle.std.proofs.Common.{◌≡◌, map, take}
use Rattle.sil_symbols.specs.declared.outcome.Outcome.TheVariants.{NoValue}
use Rattle.sil_symbols.proofs.symbols.no_addresses.Given as goal

abbrev pub invariant-loop : goal.invariant-loop
invariant-loop l = l.addresses.items ≡ map (λ s. NoValue) (take l.index l.statements)
