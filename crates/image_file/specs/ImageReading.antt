-- Words for the readers of an image's parts.
use Rattle.std.specs.Prelude.{◌≡◌, ℕ, ◌^◌, ◌<◌, List, [], ◌∷◌}
use Rattle.image_file.specs.declared.stop.ImageStop.{ImageStop}
use Rattle.image_file.specs.declared.stop.ImageStop.TheVariants as stop
use Rattle.image_file.specs.declared.counts.Counts.{Counts}
use Rattle.image_file.specs.Image.{Image, StatementEntry}
use Rattle.image_file.specs.ImageGrammar.{Part, Begins}

-- a stop at this part, for this cause, or for want of memory
abbrev pub StopsAt : ImageStop → ℕ → Type 0 → Type 0
StopsAt (stop.Part k) part Cause = (k ≡ part) × Cause
StopsAt stop.Memory part Cause = Unit {0}

-- no image has this part here
abbrev pub Misses : Part → Counts → List ℕ → Type 0
Misses part counts bytes = (i : Image) (rest : List ℕ) → ¬ Begins part counts i bytes rest

-- entries whose numbers fit
abbrev pub FitEntries : List StatementEntry → Type 0
FitEntries [] = Unit {0}
FitEntries (e ∷ es) = (e.place < 256 ^ 8) × (e.card < 256 ^ 4) × FitEntries es
