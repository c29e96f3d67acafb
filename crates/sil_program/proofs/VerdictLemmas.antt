-- The verdict where everything but the program is settled.
use Rattle.std.proofs.Common.{◌≡◌, ℕ, Bool, true, false, List, [], ◌∷◌, Option, Some, refl, sym, subst, ap, ◌∙◌}
use Rattle.std.specs.Prelude.{Result, Ok, Err, MatchResult, IsErrAnd}
use Rattle.layout_params.specs.declared.cell.Cell.{Cell}
use Rattle.layout_params.specs.Parameters.{Parameters}
use Rattle.sil_symbols.specs.declared.stmt.Stmt.{Stmt}
use Rattle.data_asm.specs.Cells.{static_cells_of}
use Rattle.sil_model.specs.declared.program.Program.{Program}
use Rattle.sil_arguments.specs.declared.stop.ProgramStop.{ProgramStop}
use Rattle.sil_arguments.specs.declared.stop.ProgramStop.TheVariants as stop
use Rattle.syntax_tables.specs.declared.saying.Said.{Said}
use Rattle.sil_arguments.specs.HeldScopes.{IsUnmade}
use Rattle.sil_program.specs.Programs.{program_over, program_of}
use Rattle.sil_program.specs.Verdicts.{is_built_source, if_built, made, verdict_built, IsStopFor}

built : (b : Bool) (next : Result Program ProgramStop) → b ≡ true → if_built b next ≡ next
built b next h = rw h refl

module _ (p : Parameters) (source : List Stmt) (lines : List Said) (cells : List Cell) (are_cells : cells ≡ static_cells_of p source) where
  -- what is left of the verdict: the program over the static cells
  program_left : is_built_source source ≡ true → verdict_built p source lines ≡ made (program_over p source lines cells)
  unfolding program_of
  program_left h =
      built (is_built_source source) _ h
      ∙ ap (λ cs. made (program_over p source lines cs)) (sym are_cells)

  pub answered : (program : Program) → is_built_source source ≡ true → program_over p source lines cells ≡ Some program → verdict_built p source lines ≡ Ok program
  answered program all_built some = program_left all_built ∙ ap made some

  stopped_by : (answer : Result Program ProgramStop) (o : Option Program) (e : ProgramStop) → answer ≡ made o → IsUnmade o e → IsStopFor answer e
  stopped_by answer o (stop.Faults faults) is h = absurd h
  stopped_by answer o stop.NotBuilt is h = is ∙ ap made h
  stopped_by answer o stop.Memory is h = tt

  pub stopped : (e : ProgramStop) → is_built_source source ≡ true → IsUnmade (program_over p source lines cells) e → IsStopFor (verdict_built p source lines) e
  stopped e all_built unmade = stopped_by (verdict_built p source lines) (program_over p source lines cells) e (program_left all_built) unmade

pub answers_stop : (answer : Result Program ProgramStop) (r : Result Program ProgramStop) (e : ProgramStop) → IsErrAnd r (λ x. x ≡ e) → IsStopFor answer e → MatchResult r (λ program. answer ≡ Ok program) (IsStopFor answer)
answers_stop answer (Ok program) e h stops = absurd h
answers_stop answer (Err x) e h stops = rw h stops
