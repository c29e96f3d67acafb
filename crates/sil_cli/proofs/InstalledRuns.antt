-- Runs of installed images.
use Rattle.std.proofs.Common.{◌≡◌, ◌≢◌, ℕ, ◌+◌, ◌≤◌, ◌^◌, Bool, List, [], length, Option, None, Some, option_map, IfSome, IsOkAnd, true, false, refl, sym, ap, ◌∙◌, subst, inl, inr, Ok, Err, arith}
use Rattle.std.specs.Prelude.{is_some, ⊤}
use Rattle.std.specs.declared.result.Result.{Result}
use Rattle.std.specs.FinMap.{insert}
use Rattle.sil_base.specs.Files.{Files}
use Rattle.sil_base.specs.declared.sink.Put.{Put}
use Rattle.sil_base.specs.declared.sink.Put.TheVariants as puts
use Rattle.unit_io.specs.Tapes.{Tapes, all_told}
use Rattle.unit_io.specs.Units.{AllUnits, tapes_of}
use Rattle.layout_params.specs.Parameters.{Parameters}
use Rattle.sil_model.specs.declared.end.End.{End}
use Rattle.sil_model.specs.declared.program.Program.{Program}
use Rattle.sil_runs.specs.Machine.{machine}
use Rattle.sil_model.specs.Start.{first_state}
use Rattle.image_file.specs.Image.{Image, IsImage}
use Rattle.image_file.specs.ImageGrammar.{IsImageFile}
use Rattle.image_file.specs.Spelling.{spelling}
use Rattle.image_file.proofs.Files.{image_of_file, spelled}
use Rattle.rv_emulate.specs.declared.end.CpuEnd.{CpuEnd}
use Rattle.rv_emulate.specs.declared.end.CpuEnd.TheVariants as run
use Rattle.rv_emulate.specs.EmulatorRuns.{emulation, budget}
use Rattle.rv_operations.specs.Does.{as_end}
use Rattle.sil_check.specs.CheckedPrograms.{Job}
use Rattle.sil_install.specs.Installed.{IsInstalled}
use Rattle.command_report.specs.declared.ending.Ending.{Ending}
use Rattle.command_report.specs.declared.ending.Ending.TheVariants as ending
use Rattle.command_report.specs.declared.ending.Stop.{Stop}
use Rattle.command_report.specs.declared.ending.Stop.TheVariants as stop
use Rattle.command_report.specs.Endings.{demo_line, is_free, is_free_end, is_free_run}
use Rattle.command_report.specs.Noted.{Noted, NotesMore}
use Rattle.command_report.proofs.Noting.{noted-alone, noted-nothing}
use Rattle.command_words.specs.CommandOrders.{SourceNames, CommandOrder, runs, traces, lists, goes, demos}
use Rattle.image_runs.specs.ImageRuns.{FaultCause, IsTold, RunsBytes, RunsSo, IsRefusedRun}
use Rattle.image_runs.specs.Listings.{listing}
use Rattle.image_runs.specs.TracedRuns.{text_lines}
use Rattle.sil_cli.specs.Answer.{Performs, StopsSo, StopsRun, Tells}
use Rattle.sil_cli.specs.CommandFiles.{StopCause, job_at, image_at}
use Rattle.sil_cli.specs.DemoJobs.{demo_job}
use Rattle.sil_cli.specs.Engines.{IsProgramEnd, MayRefuse, engine_of}
use Rattle.sil_cli.specs.Report.{Comes, KeepsOthers, Leaves}
use Rattle.sil_cli.proofs.RunEnds.{IsPlain, HasSmallExit, has-end, run-plain, emulation-small, program-end}
use Rattle.sil_cli.proofs.Commands.{mapped-some, same-some}

-- an installed image ends as the machine, and leaves its tapes, where the machine's run has an end
pub installed-end : (bytes : List ℕ) (program : Program) (parameters : Parameters) (n : ℕ) (end : CpuEnd) (tapes tapes' : Tapes) → IsInstalled bytes program parameters → n ≤ 2 ^ 40 → RunsBytes bytes n end tapes tapes' → end ≢ run.Memory →
    is_some (machine program parameters tapes n).end ≡ true → option_map as_end (machine program parameters tapes n).end ≡ Some end
installed-end bytes program parameters n end tapes tapes' i few went had told =
    let alike = i.behaves.alike tapes n few in
    sym alike.end ∙ (went i.image i.is_image i.spelled).ends had (mapped-some as_end (machine program parameters tapes n).end _ alike.end told)

pub installed-tapes : (bytes : List ℕ) (program : Program) (parameters : Parameters) (n : ℕ) (end : CpuEnd) (tapes tapes' : Tapes) → IsInstalled bytes program parameters → n ≤ 2 ^ 40 → RunsBytes bytes n end tapes tapes' → end ≢ run.Memory →
    is_some (machine program parameters tapes n).end ≡ true → tapes' ≡ (machine program parameters tapes n).tapes
installed-tapes bytes program parameters n end tapes tapes' i few went had told =
    let alike = i.behaves.alike tapes n few in
    (went i.image i.is_image i.spelled).leaves had (mapped-some as_end (machine program parameters tapes n).end _ alike.end told) ∙ alike.tapes

-- an end that isn't free is none by want of memory
pub had-memory : (end : CpuEnd) → is_free_run end ≡ false → end ≢ run.Memory
had-memory end kept is = let no : is_free_run run.Memory ≡ false = rw is at kept in let none : ⊥ = cc in none

program-ends : (o : Option End) (end : CpuEnd) → option_map as_end o ≡ Some end → IsPlain o → HasSmallExit end → IsProgramEnd end
program-ends None end e h small = absurd h
program-ends (Some x) end e h small =
    let same : as_end x ≡ end = same-some _ _ e in
    rw (sym same) (program-end x h (rw (sym same) at small))

free-memory : (end : CpuEnd) → is_free_run end ≡ true → end ≡ run.Memory
free-memory (run.Exit code) h = absurd (let none : ⊥ = cc in none)
free-memory (run.Trap k) h = absurd (let none : ⊥ = cc in none)
free-memory (run.Undefined k) h = absurd (let none : ⊥ = cc in none)
free-memory run.Budget h = absurd (let none : ⊥ = cc in none)
free-memory (run.UnitFault k unit) h = absurd (let none : ⊥ = cc in none)
free-memory (run.Illegal pc) h = absurd (let none : ⊥ = cc in none)
free-memory (run.Fetch pc) h = absurd (let none : ⊥ = cc in none)
free-memory (run.Load pc) h = absurd (let none : ⊥ = cc in none)
free-memory (run.Store pc) h = absurd (let none : ⊥ = cc in none)
free-memory (run.BadCall pc) h = absurd (let none : ⊥ = cc in none)
free-memory run.Runaway h = absurd (let none : ⊥ = cc in none)
free-memory run.Memory h = refl

first-told : (program : Program) (parameters : Parameters) (tapes : Tapes) → all_told tapes ≡ true → all_told (first_state program parameters.settings tapes).tapes ≡ true
unfolding first_state
first-told program parameters tapes h = h

-- a run of an installed image over units that all tell their tapes ends as programs do
pub went-ends : (steps : ℕ) (tapes tapes' : Tapes) (end : CpuEnd) (image : List ℕ) → (job : Job) × IsInstalled image job.program job.parameters → RunsBytes image steps end tapes tapes' → steps ≤ 2 ^ 40 → all_told tapes ≡ true → (free : Bool) → is_free_run end ≡ free → IsProgramEnd end
went-ends steps tapes tapes' end image some went few told true free = rw (free-memory end free) tt
went-ends steps tapes tapes' end image some went few told false kept =
    let plain = run-plain some.0.program some.0.parameters steps _ (first-told some.0.program some.0.parameters tapes told) in
    let is = installed-end image some.0.program some.0.parameters steps end tapes tapes' some.1 few went (had-memory end kept) (has-end _ plain) in
    let small = emulation-small some.1.image tapes steps (budget some.1.image steps) end ((some.1.behaves.alike tapes steps few).end ∙ is) in
    program-ends _ end is plain small

-- an installed image isn't refused
pub free-refusal : (image bytes : List ℕ) (e : Stop) → bytes ≡ image → (job : Job) × IsInstalled image job.program job.parameters → ((i : Image) → IsImage i → bytes ≡ spelling i → e ≡ stop.Memory) → e ≡ stop.Memory
free-refusal image bytes e same some accepts = accepts some.1.image some.1.is_image (same ∙ some.1.spelled)
