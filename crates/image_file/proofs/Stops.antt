-- Stops of readers, and why bytes are refused.
use Rattle.std.proofs.Common.{ℕ, List, sym, subst}
use Rattle.image_file.specs.declared.stop.ImageStop.{ImageStop}
use Rattle.image_file.specs.declared.stop.ImageStop.TheVariants.{Part as PartStop, Memory}
use Rattle.image_file.specs.ImageGrammar.{IsFirstWrong, IsRefused}
use Rattle.image_file.specs.ImageReading.{StopsAt}

pub stops_as : (e : ImageStop) (n : ℕ) (P Q : Type 0) → StopsAt e n P → (P → Q) → StopsAt e n Q
stops_as (PartStop k) n P Q h f = (h.0, f h.1)
stops_as Memory n P Q h f = tt

pub refused_at : (e : ImageStop) (n : ℕ) (P : Type 0) (whole : List ℕ) → StopsAt e n P → (P → IsFirstWrong n whole) → IsRefused e whole
refused_at (PartStop k) n P whole h f = subst (λ m. IsFirstWrong m whole) (sym h.0) (f h.1)
refused_at Memory n P whole h f = tt
