-- Ways that come to the statement of a location.
use Rattle.std.proofs.Common.{◌≡◌, ℕ, ◌<◌, Option, Some, None, true, refl, arith}
use Rattle.std.proofs.lemmas.Bool.Decides.{nat_tests}
use Rattle.std.specs.Prelude.{nat_le}
use Rattle.sil_model.specs.Arguments.{flow_to}
use Rattle.sil_model.specs.Effects.{goes}
use Rattle.sil_model.specs.Settling.{settle, at_next}
use Rattle.sil_model.specs.States.{State, Goes}
use Rattle.exp_common.specs.Locations.{lead, IsAmong}

-- a step to a location goes where it leads
pub goes_to : (location : Option ℕ) (s t : State) → settle s (goes (flow_to location) t) ≡ Goes (at_next s (lead s.statement location) t)
goes_to None s t = refl
goes_to (Some j) s t = refl

-- the statement that it leads to is one of so many, or the one after the last
pub lead_within : (count k : ℕ) (location : Option ℕ) → k < count → IsAmong count location → nat_le (lead k location) count ≡ true
lead_within count k None lt within = grind (arith, nat_tests, lt)
lead_within count k (Some j) lt within = grind (arith, nat_tests, within)
