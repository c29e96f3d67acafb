-- Runs of the emulator from their start.
use Rattle.std.proofs.Common.{◌≡◌, ◌≢◌, ℕ, ◌⊎◌, inl, inr, Option, None, Some, true, refl, sym, ap, ◌∙◌}
use Rattle.std.specs.Prelude.{is_some, IsSome}
use Rattle.unit_io.specs.Tapes.{Tapes}
use Rattle.unit_io.specs.Units.{AllUnits, RoseAt}
use Rattle.image_file.specs.Image.{Image}
use Rattle.rv_emulate.specs.declared.end.CpuEnd.{CpuEnd}
use Rattle.rv_emulate.specs.declared.end.CpuEnd.TheVariants.{Memory, UnitFault}
use Rattle.rv_emulate.specs.Cpus.{CpuState, stands, stands_with, state, is_told}
use Rattle.rv_emulate.specs.EmulatorStates.{State, Outcome, On, Ended, start}
use Rattle.rv_emulate.specs.EmulatorRuns.{run, on_state, end_of, tapes_of, emulation, budget}
use Rattle.image_runs.specs.ImageRuns.{FaultCause, RunsSo}

stands-tapes : (ended : Option CpuEnd) (s : State) → tapes_of (stands_with ended s) ≡ s.tapes
stands-tapes None s = refl
stands-tapes (Some e) s = refl

pub told-of : (o : Outcome) → is_some (end_of o) ≡ true → is_told o ≡ true
told-of (On s) h = refl
told-of (Ended e tapes) h = h

-- a Cpu that was run from the start under the budget has made the image's run, where that has an end
pub runs-so : (image : Image) (n b : ℕ) (end : CpuEnd) (old new : CpuState) (tapes tapes' : Tapes) → b ≡ budget image n → stands old tapes ≡ On (start image tapes n) →
    (end ≢ Memory → is_told (on_state (stands old tapes) (run image b)) ≡ true → (stands new tapes' ≡ on_state (stands old tapes) (run image b)) × (end_of (on_state (stands old tapes) (run image b)) ≡ Some end)) → RunsSo image n end tapes tapes'
unfolding emulation
runs-so image n b end old new tapes tapes' under begins runs =
    let from : on_state (stands old tapes) (run image b) ≡ run image (budget image n) (start image tapes n) = ap (λ o. on_state o (run image b)) begins ∙ ap (λ k. run image k (start image tapes n)) under in
    record {
      ends = λ had told. sym (ap end_of from) ∙ (runs had (ap is_told from ∙ told-of (run image (budget image n) (start image tapes n)) told)).1;
      leaves = λ had told. sym (stands-tapes new.ended (state new tapes')) ∙ ap tapes_of ((runs had (ap is_told from ∙ told-of (run image (budget image n) (start image tapes n)) told)).0 ∙ from);
    }

-- a Cpu that stands in a state hasn't ended
pub in-state : (o : Option CpuEnd) (s t : State) → stands_with o s ≡ On t → (o ≡ None) × (s ≡ t)
in-state None s t e = (refl, cc)
in-state (Some x) s t e = absurd (cc)

pub not-ended : (o : Option CpuEnd) → o ≡ None → IsSome o → ⊥
not-ended None e h = cc
not-ended (Some x) e h = cc

pub start-failed : (image : Image) (tapes : Tapes) (n : ℕ) → (start image tapes n).failed ≡ None
unfolding start
start-failed image tapes n = refl

from-start : (ended : Option CpuEnd) (failed : Option ℕ) (unit : ℕ) (units units' : AllUnits) → ended ≡ None → failed ≡ None → IsSome ended ⊎ ((failed ≡ Some unit) ⊎ RoseAt unit units units') → RoseAt unit units units'
from-start ended failed unit units units' none unfailed (inl h) = absurd (not-ended ended none h)
from-start ended failed unit units units' none unfailed (inr (inl h)) = let no : None ≡ Some unit = sym unfailed ∙ h in absurd (cc)
from-start ended failed unit units units' none unfailed (inr (inr h)) = h

-- a Cpu that was run from the start ends by a fault of a unit only where the unit's count rose
pub fault-cause : (image : Image) (n : ℕ) (end : CpuEnd) (old : CpuState) (tapes : Tapes) (units units' : AllUnits) → stands old tapes ≡ On (start image tapes n) →
    ((k unit : ℕ) → end ≡ UnitFault k unit → IsSome old.ended ⊎ ((old.failed ≡ Some unit) ⊎ RoseAt unit units units')) → FaultCause end units units'
fault-cause image n (UnitFault k unit) old tapes units units' begins faults =
    let at = in-state old.ended (state old tapes) (start image tapes n) begins in
    from-start old.ended old.failed unit units units' at.0 (ap (λ s. s.failed) at.1 ∙ start-failed image tapes n) (faults k unit refl)
fault-cause image n _ old tapes units units' begins faults = tt
