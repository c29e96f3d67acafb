-- The ways of the installed code, from statement to statement.
use Rattle.std.specs.Prelude.{◌≡◌, ◌≢◌, ℕ, ◌<◌, ◌≤◌, length, Option, Some, None, option_map, Bool, false, slice_get}
use Rattle.sil_base.specs.declared.limits.TheConstants.{MAX_STEPS, STATEMENT_INSTRUCTIONS}
use Rattle.unit_io.specs.Tapes.{Tapes}
use Rattle.layout_params.specs.Parameters.{Settings, Parameters}
use Rattle.sil_model.specs.declared.end.End.{End}
use Rattle.sil_model.specs.declared.end.End.TheVariants as ends
use Rattle.sil_model.specs.declared.program.Program.{Program}
use Rattle.sil_model.specs.declared.program.Statement.{Statement}
use Rattle.sil_model.specs.States as machine
use Rattle.sil_model.specs.States.{Step, Goes, Ends}
use Rattle.sil_model.specs.Start.{first_state}
use Rattle.sil_runs.specs.Machine.{make_step}
use Rattle.sil_runs.specs.Costs.{cost}
use Rattle.sil_model.specs.Valid.{IsValid}
use Rattle.sil_base.specs.declared.places.TheConstants.{FIRST_WORD}
use Rattle.image_file.specs.Image.{Image}
use Rattle.rv_emulate.specs.EmulatorStates.{State, On, Ended, start}
use Rattle.rv_emulate.specs.EmulatorRuns.{entry_at}
use Rattle.rv_straight.specs.InstalledWays.{Comes}
use Rattle.rv_operations.specs.Does.{as_end}
use Rattle.rv_emit.specs.Represents.{Represents}
use Rattle.rv_emit.specs.StatementPlaces.{place}

-- the run from s comes to the place of m's statement, in a state that stands for m
abbrev pub ComesTo : Image → Settings → ℕ → ℕ → Bool → ℕ → State → machine.State → Type 0
ComesTo image settings last n prints most s m =
    (t : State) × Comes image last prints most s (On t) × (t.pc ≡ place image last m.statement) × Represents settings n m t

abbrev pub EndsAs : Image → ℕ → Bool → ℕ → State → Option End → Tapes → Type 0
EndsAs image last prints most s e tapes = Comes image last prints most s (Ended (option_map as_end e) tapes)

-- the run from s does what a step of the machine does
abbrev pub Makes : Image → Settings → ℕ → ℕ → Bool → ℕ → State → Step → Type 0
Makes image settings last n prints most s (Goes m) = ComesTo image settings last n prints most s m
Makes image settings last n prints most s (Ends e tapes) = EndsAs image last prints most s e tapes

-- the code carries out each statement, from each state that stands for a valid one, and makes call 3 only where it may
pub record CarriesOut (image : Image) (program : Program) (parameters : Parameters) (last : ℕ) (prints : Bool) : Type 0 where
  pub entries : (k : ℕ) → k < length program.statements → entry_at image.statements (place image last k) ≡ Some k
  pub beyond : (k : ℕ) → length program.statements ≤ k → place image last k ≡ last
  pub last_apart : entry_at image.statements last ≡ None
  pub first_apart : (entry_at image.statements FIRST_WORD ≡ None) × (FIRST_WORD ≢ last)
  pub begins : (tapes : Tapes) (n : ℕ) → n ≤ MAX_STEPS → ComesTo image parameters.settings last n false STATEMENT_INSTRUCTIONS (start image tapes n) (first_state program parameters.settings tapes)
  pub statement : (n : ℕ) (m : machine.State) (s : State) (st : Statement) → n ≤ MAX_STEPS → slice_get program.statements m.statement ≡ Some st → IsValid program parameters.settings m → m.steps < n → s.pc ≡ place image last m.statement → Represents parameters.settings n m s → Makes image parameters.settings last n prints (cost program parameters st m) s (make_step program parameters st m)
  pub bound : (n : ℕ) (m : machine.State) (s : State) → n ≤ MAX_STEPS → m.statement < length program.statements → IsValid program parameters.settings m → m.steps ≡ n → s.pc ≡ place image last m.statement → Represents parameters.settings n m s → EndsAs image last false STATEMENT_INSTRUCTIONS s (Some ends.Budget) m.tapes
  pub past : (n : ℕ) (m : machine.State) (s : State) → n ≤ MAX_STEPS → m.statement ≡ length program.statements → IsValid program parameters.settings m → s.pc ≡ last → Represents parameters.settings n m s → EndsAs image last false STATEMENT_INSTRUCTIONS s (Some (ends.Undefined m.statement)) m.tapes
