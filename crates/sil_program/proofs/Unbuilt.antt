-- NotBuilt is answered only for a source that isn't built.
use Rattle.std.proofs.Common.{◌≡◌, ℕ, Bool, true, false, List, [], ◌∷◌, Option, Some, None, refl, sym, true≢false, ◌∙◌}
use Rattle.std.specs.Prelude.{Result, Ok, Err, MatchResult, IfErr, is_some}
use Rattle.layout_params.specs.Parameters.{Parameters}
use Rattle.sil_base.specs.declared.fault_stop.FaultStop.{FaultStop}
use Rattle.sil_base.specs.declared.fault_stop.FaultStop.TheVariants as below
use Rattle.sil_base.specs.declared.line.Fault.{Fault}
use Rattle.sil_symbols.specs.declared.stmt.Stmt.{Stmt}
use Rattle.sil_symbols.specs.SymbolRules.{faults_of}
use Rattle.sil_shapes.specs.ShapeRules.{statement_faults}
use Rattle.data_asm.specs.DataFaults.{data_faults}
use Rattle.syntax_tables.specs.declared.saying.Said.{Said}
use Rattle.syntax_tables.specs.TableFiles.{written_of}
use Rattle.sil_model.specs.declared.program.Program.{Program}
use Rattle.sil_arguments.specs.declared.stop.ProgramStop.{ProgramStop}
use Rattle.sil_arguments.specs.declared.stop.ProgramStop.TheVariants as stop
use Rattle.sil_program.specs.ProgramLaws.{LawOfPrograms}
use Rattle.sil_program.specs.Programs.{program_of}
use Rattle.sil_program.specs.Specials.{special_faults}
use Rattle.sil_program.specs.TableFaults.{table_faults}
use Rattle.sil_program.specs.Verdicts.{is_built_source, unless_faults, if_built, made, with_lines, verdict_built, verdict_with, verdict_of, IsStopFor, IsUnbuilt}

-- there were no faults, and what follows is answered
unless_next : (faults : List Fault) (next : Result Program ProgramStop) → unless_faults faults next ≡ Err stop.NotBuilt → (faults ≡ []) × (next ≡ Err stop.NotBuilt)
unless_next [] next h = (refl, h)
unless_next (fault ∷ faults) next h = let no : ⊥ = cc in absurd no

lines_next : (answer : Result (List Said) FaultStop) (go : List Said → Result Program ProgramStop) → with_lines answer go ≡ Err stop.NotBuilt → (lines : List Said) × (go lines ≡ Err stop.NotBuilt)
lines_next (Ok lines) go h = (lines, h)
lines_next (Err (below.Faults faults)) go h = let no : ⊥ = cc in absurd no
lines_next (Err below.Memory) go h = let no : ⊥ = cc in absurd no

built_next : (b : Bool) (o : Option Program) → is_some o ≡ true → if_built b (made o) ≡ Err stop.NotBuilt → b ≡ false
built_next false o h k = refl
built_next true None h k = absurd (true≢false (sym h))
built_next true (Some program) h k = let no : ⊥ = cc in absurd no

module _ (law : LawOfPrograms) (p : Parameters) (source : List Stmt) (tables : List ℕ) where
  verdict_unbuilt : verdict_of p source tables ≡ Err stop.NotBuilt → is_built_source source ≡ false
  verdict_unbuilt h =
      let (symbols, shaped) = unless_next (faults_of p source) (unless_faults (statement_faults p source) (unless_faults (data_faults p source) (with_lines (written_of tables) (verdict_with p source)))) h in
      let (shapes, laid) = unless_next (statement_faults p source) (unless_faults (data_faults p source) (with_lines (written_of tables) (verdict_with p source))) shaped in
      let (data_none, lined) = unless_next (data_faults p source) (with_lines (written_of tables) (verdict_with p source)) laid in
      let (lines, named) = lines_next (written_of tables) (verdict_with p source) lined in
      let (tabled, needed) = unless_next (table_faults p source lines) (unless_faults (special_faults p source) (verdict_built p source lines)) named in
      let (needs, last) = unless_next (special_faults p source) (verdict_built p source lines) needed in
      built_next (is_built_source source) (program_of p source lines) (law p source lines symbols shapes tabled) last

  -- so is each stop that is what the verdict says
  pub unbuilt : (r : Result Program ProgramStop) → MatchResult r (λ program. verdict_of p source tables ≡ Ok program) (IsStopFor (verdict_of p source tables)) → IfErr r (IsUnbuilt source)
  unbuilt (Ok program) h = tt
  unbuilt (Err (stop.Faults faults)) h = tt
  unbuilt (Err stop.NotBuilt) h = verdict_unbuilt h
  unbuilt (Err stop.Memory) h = tt
