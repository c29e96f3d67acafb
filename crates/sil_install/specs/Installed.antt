-- Installed: bytes whose runs are the runs of the abstract machine.
use Rattle.std.specs.Prelude.{◌≡◌, ◌≢◌, ℕ, ◌<◌, ◌≤◌, ◌⊎◌, List, length, Some, None, option_map, slice_get}
use Rattle.sil_base.specs.declared.limits.TheConstants.{MAX_STEPS, STATEMENT_INSTRUCTIONS}
use Rattle.unit_io.specs.Tapes.{Tapes}
use Rattle.layout_params.specs.Parameters.{Parameters}
use Rattle.sil_model.specs.declared.end.End.{End}
use Rattle.sil_model.specs.declared.program.Program.{Program}
use Rattle.sil_model.specs.declared.program.Statement.{Statement}
use Rattle.unit_io.specs.RunEnds.{Run}
use Rattle.sil_model.specs.States as machine
use Rattle.sil_model.specs.States.{Goes}
use Rattle.sil_model.specs.Start.{first_state}
use Rattle.sil_runs.specs.Machine.{machine, after}
use Rattle.sil_runs.specs.Costs.{cost}
use Rattle.sil_model.specs.Prints.{IsSilent}
use Rattle.image_file.specs.Image.{Image, IsImage}
use Rattle.image_file.specs.Spelling.{spelling}
use Rattle.rv_emit.specs.Parts.{IsImageOf}
use Rattle.rv_emulate.specs.declared.end.CpuEnd.{CpuEnd}
use Rattle.rv_emulate.specs.declared.end.CpuEnd.TheVariants.{Fetch}
use Rattle.rv_emulate.specs.EmulatorStates.{State, Outcome, On, Ended, start, steps_left}
use Rattle.rv_emulate.specs.EmulatorRuns.{run, met, entry_at, emulation, budget}
use Rattle.rv_emulate.specs.AlongRuns.{Calls}
use Rattle.rv_emit.specs.Represents.{Represents}
use Rattle.rv_emit.specs.StatementPlaces.{place}
use Rattle.rv_operations.specs.Does.{as_end}

-- the same end, equal tapes and equal lists of statements
pub record SameRun (r : Run CpuEnd) (q : Run End) : Type 0 where
  pub end : r.end ≡ option_map as_end q.end
  pub tapes : r.tapes ≡ q.tapes
  pub met : r.met ≡ q.met

-- for all tapes and every bound, the image's run under its budget is the machine's
abbrev pub RunsAlike : Image → Program → Parameters → Type 0
RunsAlike image program parameters =
    (tapes : Tapes) (n : ℕ) → n ≤ MAX_STEPS → SameRun (emulation image tapes n (budget image n)) (machine program parameters tapes n)

-- no run fetches outside the code: there it would end so
abbrev pub StaysInside : Image → Type 0
StaysInside image = (tapes : Tapes) (n pc : ℕ) → n ≤ MAX_STEPS → (emulation image tapes n (budget image n)).end ≢ Some (Fetch pc)

-- after i instructions from the start the run is at t
abbrev pub IsAt : Image → Tapes → ℕ → ℕ → State → Type 0
IsAt image tapes n i t = (n ≤ MAX_STEPS) × (run image i (start image tapes n) ≡ On t)

abbrev pub NeverWrites : Image → Type 0
NeverWrites image = (tapes : Tapes) (n i : ℕ) (t : State) → IsAt image tapes n i t → Calls image 3 t → ⊥

-- the pc is a statement's place, or the place after the last statement
abbrev pub Stops : Image → ℕ → ℕ → Type 0
Stops image last pc = (entry_at image.statements pc ≢ None) ⊎ (pc ≡ last)

-- the machine's state after as many steps as statements were met in i instructions
abbrev pub Reached : Image → Program → Parameters → Tapes → ℕ → ℕ → machine.State → Type 0
Reached image program parameters tapes n i m =
    after program parameters (length (met image i (start image tapes n))) (first_state program parameters.settings tapes) ≡ Goes m

-- statement by statement, the image's state stands for the machine's
abbrev pub Follows : Image → Program → Parameters → ℕ → Type 0
Follows image program parameters last =
    (tapes : Tapes) (n i : ℕ) (t : State) → IsAt image tapes n i t → Stops image last t.pc → (m : machine.State) × Reached image program parameters tapes n i m × (t.pc ≡ place image last m.statement) × Represents parameters.settings n m t

abbrev pub Arrives : Image → ℕ → Outcome → Type 0
Arrives image last (On t) = Stops image last t.pc
Arrives image last (Ended e tapes) = Unit {0}

abbrev pub IsEnd : Outcome → Type 0
IsEnd (On t) = ⊥
IsEnd (Ended e tapes) = Unit {0}

-- after 1 to `most` instructions the run is so
abbrev pub Within : Image → ℕ → State → (Outcome → Type 0) → Type 0
Within image most s P = (j : ℕ) × (0 < j) × (j ≤ most) × P (run image j s)

-- how many instructions a run takes from place to place
pub record Paced (image : Image) (program : Program) (parameters : Parameters) (last : ℕ) : Type 0 where
  pub begins : (tapes : Tapes) (n : ℕ) → n ≤ MAX_STEPS → Within image STATEMENT_INSTRUCTIONS (start image tapes n) (λ o. (t : State) × (o ≡ On t) × (t.pc ≡ place image last 0))
  pub statement : (tapes : Tapes) (n i k : ℕ) (t : State) → IsAt image tapes n i t → entry_at image.statements t.pc ≡ Some k → 0 < steps_left t → (m : machine.State) × Reached image program parameters tapes n i m × (s : Statement) × (slice_get program.statements k ≡ Some s) × Within image (cost program parameters s m) t (Arrives image last)
  pub bound : (tapes : Tapes) (n i k : ℕ) (t : State) → IsAt image tapes n i t → entry_at image.statements t.pc ≡ Some k → steps_left t ≡ 0 → Within image STATEMENT_INSTRUCTIONS t IsEnd
  pub past : (tapes : Tapes) (n i : ℕ) (t : State) → IsAt image tapes n i t → t.pc ≡ last → Within image STATEMENT_INSTRUCTIONS t IsEnd

-- what the runs of an image of a program are
pub record Behaves (image : Image) (program : Program) (parameters : Parameters) : Type 0 where
  pub last : ℕ
  pub alike : RunsAlike image program parameters
  pub inside : StaysInside image
  pub silent : IsSilent program → NeverWrites image
  pub paced : Paced image program parameters last
  pub follows : Follows image program parameters last

-- the bytes are the spelling of an image of the program, and its runs are the machine's
pub record IsInstalled (bytes : List ℕ) (program : Program) (parameters : Parameters) : Type 0 where
  pub image : Image
  pub is_image : IsImage image
  pub spelled : bytes ≡ spelling image
  pub parts : IsImageOf image program parameters.settings
  pub behaves : Behaves image program parameters
