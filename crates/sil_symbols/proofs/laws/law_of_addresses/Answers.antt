use Rattle.sil_symbols.proofs.AddressLemmas.{addresses_are, places_are}
use Rattle.sil_symbols.proofs.laws.law_of_addresses.Goals as goal

pub returns-clause-addresses : goal.returns-clause-addresses
returns-clause-addresses c = addresses_are

pub returns-clause-places : goal.returns-clause-places
returns-clause-places c = places_are
