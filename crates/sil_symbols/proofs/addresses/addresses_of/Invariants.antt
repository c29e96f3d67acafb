use Rattle.std.proofs.Common.{◌≡◌, take}
use Rattle.sil_symbols.specs.Addresses.{addresses_from, spot_after, first_spot}
use Rattle.sil_symbols.specs.HeldNames.{names_in, capped}
use Rattle.sil_symbols.proofs.addresses.addresses_of.Given as goal

abbrev pub invariant-loop-statement : goal.invariant-loop-statement
invariant-loop-statement l = record {
  addresses : l.addresses.items ≡ addresses_from l.descr (names_in l.names l.sizes) first_spot (take l.statement-index l.statements);
  spot : l.spot ≡ capped (spot_after l.descr (names_in l.names l.sizes) first_spot (take l.statement-index l.statements));
}
