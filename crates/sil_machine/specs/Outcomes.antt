-- How runs end.
use Rattle.std.specs.Prelude.{◌≡◌, ℕ, true, Option, is_some, slice_get}
use Rattle.unit_io.specs.Tapes.{Tapes}
use Rattle.layout_params.specs.Parameters.{Parameters}
use Rattle.sil_model.specs.declared.end.End.{End}
use Rattle.sil_model.specs.declared.end.End.TheVariants.{Undefined, Budget}
use Rattle.sil_model.specs.declared.program.Program.{Program}
use Rattle.sil_model.specs.States.{State}
use Rattle.sil_runs.specs.Machine.{run, with_statement}

-- the end of a run, if it has one, and the tapes then
pub record RunOutcome : Type 0 where
  pub end : Option End
  pub tapes : Tapes

-- how a run of at most n steps ends
unfoldable pub outcome_of : Program → Parameters → ℕ → State → RunOutcome
outcome_of program parameters n s = record { end = (run program parameters n s).end; tapes = (run program parameters n s).tapes }

-- the first is the second, where the second has an end
unfoldable pub IsAs : RunOutcome → RunOutcome → Type 0
IsAs o whole = is_some whole.end ≡ true → o ≡ whole

-- the end at a statement where no steps are left
unfoldable pub end_at : Program → ℕ → End
end_at program k = with_statement (slice_get program.statements k) (Undefined k) (λ statement. Budget)
