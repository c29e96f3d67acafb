-- Laws of whole runs.
use Rattle.std.specs.Prelude.{◌≡◌, ℕ, ◌+◌, ◌≤◌, length}
use Rattle.layout_params.specs.Parameters.{Parameters}
use Rattle.sil_model.specs.declared.end.End.{End}
use Rattle.sil_model.specs.declared.program.Program.{Program}
use Rattle.sil_runs.specs.Machine.{after, after_step, ended, run}
use Rattle.unit_io.specs.RunEnds.{Run}
use Rattle.sil_model.specs.States.{State}

-- both end alike, with the same tapes
pub record SameOutcome (one other : Run End) : Type 0 where
  pub end : one.end ≡ other.end
  pub tapes : one.tapes ≡ other.tapes

-- the run that goes on after m steps
abbrev pub run_after : Program → Parameters → ℕ → ℕ → State → Run End
run_after program parameters m n s = after_step (after program parameters m s) ended (run program parameters n)

-- a run of m + n steps ends as one of n steps after the first m, and a run meets no more statements than it has steps
pub record AreRuns (program : Program) (parameters : Parameters) : Type 0 where
  pub outcome : (m n : ℕ) (s : State) → SameOutcome (run program parameters (m + n) s) (run_after program parameters m n s)
  pub met : (n : ℕ) (s : State) → length (run program parameters n s).met ≤ n

abbrev pub LawOfRuns : Type 0
LawOfRuns = (program : Program) (parameters : Parameters) → AreRuns program parameters
