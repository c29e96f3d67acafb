-- What `demo` comes to.
use Rattle.std.proofs.Common.{◌≡◌, ◌≢◌, ℕ, ◌+◌, ◌≤◌, ◌^◌, Bool, List, [], length, Option, None, Some, option_map, IfSome, IsOkAnd, true, false, refl, sym, ap, ◌∙◌, subst, inl, inr, Ok, Err, arith}
use Rattle.std.specs.Prelude.{is_some, ⊤}
use Rattle.std.specs.declared.result.Result.{Result}
use Rattle.std.specs.FinMap.{insert}
use Rattle.sil_base.specs.Files.{Files}
use Rattle.sil_base.specs.declared.sink.Put.{Put}
use Rattle.sil_base.specs.declared.sink.Put.TheVariants as puts
use Rattle.unit_io.specs.Tapes.{Tapes, all_told}
use Rattle.unit_io.specs.Units.{AllUnits, tapes_of}
use Rattle.layout_params.specs.Parameters.{Parameters}
use Rattle.sil_model.specs.declared.end.End.{End}
use Rattle.sil_model.specs.declared.program.Program.{Program}
use Rattle.sil_runs.specs.Machine.{machine}
use Rattle.sil_model.specs.Start.{first_state}
use Rattle.image_file.specs.Image.{Image, IsImage}
use Rattle.image_file.specs.ImageGrammar.{IsImageFile}
use Rattle.image_file.specs.Spelling.{spelling}
use Rattle.image_file.proofs.Files.{image_of_file, spelled}
use Rattle.rv_emulate.specs.declared.end.CpuEnd.{CpuEnd}
use Rattle.rv_emulate.specs.declared.end.CpuEnd.TheVariants as run
use Rattle.rv_emulate.specs.EmulatorRuns.{emulation, budget}
use Rattle.rv_operations.specs.Does.{as_end}
use Rattle.sil_check.specs.CheckedPrograms.{Job}
use Rattle.sil_install.specs.Installed.{IsInstalled}
use Rattle.command_report.specs.declared.ending.Ending.{Ending}
use Rattle.command_report.specs.declared.ending.Ending.TheVariants as ending
use Rattle.command_report.specs.declared.ending.Stop.{Stop}
use Rattle.command_report.specs.declared.ending.Stop.TheVariants as stop
use Rattle.command_report.specs.Endings.{demo_line, is_free, is_free_end, is_free_run}
use Rattle.command_report.specs.Noted.{Noted, NotesMore}
use Rattle.command_report.proofs.Noting.{noted-alone, noted-nothing}
use Rattle.command_words.specs.CommandOrders.{SourceNames, CommandOrder, runs, traces, lists, goes, demos}
use Rattle.image_runs.specs.ImageRuns.{FaultCause, IsTold, RunsBytes, RunsSo, IsRefusedRun}
use Rattle.image_runs.specs.Listings.{listing}
use Rattle.image_runs.specs.TracedRuns.{text_lines}
use Rattle.sil_cli.specs.Answer.{Performs, StopsSo, StopsRun, Tells}
use Rattle.sil_cli.specs.CommandFiles.{StopCause, job_at, image_at}
use Rattle.sil_cli.specs.DemoJobs.{demo_job}
use Rattle.sil_cli.specs.Engines.{IsProgramEnd, MayRefuse, engine_of}
use Rattle.sil_cli.specs.Report.{Comes, KeepsOthers, Leaves}
use Rattle.sil_cli.proofs.RunEnds.{IsPlain, HasSmallExit, has-end, run-plain, emulation-small, program-end}
use Rattle.sil_cli.proofs.Commands.{if-mapped, leaves-all, performs-memory, performs-stop, ran-done, ran-stage, with-files}
use Rattle.sil_cli.proofs.InstalledRuns.{free-refusal, had-memory, installed-end, installed-tapes, went-ends}

-- the image is of the demo's program
abbrev pub IsDemoImage : ℕ → ℕ → List ℕ → Type 0
IsDemoImage cards seed image = IsOkAnd (demo_job cards seed) (λ job. IsInstalled image job.program job.parameters)

demo-comes : (cards seed : ℕ) (m : Files) (tapes tapes' : Tapes) (end : CpuEnd) (image : List ℕ) (after : Option Files) (r : Result Job Stop) → demo_job cards seed ≡ r → IsOkAnd r (λ j. IsInstalled image j.program j.parameters) → after ≡ Some m → cards + 2 ≤ 2 ^ 40 → RunsBytes image (cards + 2) end tapes tapes' → end ≢ run.Memory → Comes (Some (demos cards seed)) m tapes (ending.Ran end) (demo_line cards (length image)) after tapes'
demo-comes cards seed m tapes tapes' end image after (Err e) same installed kept few went had = absurd installed
demo-comes cards seed m tapes tapes' end image after (Ok j) same installed kept few went had = record {
  image = image;
  found = Err 0;
  installed = rw same installed;
  finds = tt;
  saves = kept;
  stage = rw same (if-mapped (machine j.program j.parameters tapes (cards + 2)).end _ _ (ran-stage as_end _ end _ _ _ tapes' m after (installed-end image j.program j.parameters (cards + 2) end tapes tapes' installed few went had) (λ h. refl) (installed-tapes image j.program j.parameters (cards + 2) end tapes tapes' installed few went had) kept));
}

demo-told : (cards seed : ℕ) (image : List ℕ) (end : CpuEnd) (before : Option Files) (tapes tapes' : Tapes) → IsDemoImage cards seed image → cards + 2 ≤ 2 ^ 40 → RunsBytes image (cards + 2) end tapes tapes' → IfSome before (λ m. is_free_end (ending.Ran end) ≡ false → Comes (Some (demos cards seed)) m tapes (ending.Ran end) (demo_line cards (length image)) before tapes')
demo-told cards seed image end None tapes tapes' installed few went = tt
demo-told cards seed image end (Some m) tapes tapes' installed few went = λ kept. demo-comes cards seed m tapes tapes' end image (Some m) (demo_job cards seed) refl installed refl few went (had-memory end kept)

some-job : (r : Result Job Stop) (image : List ℕ) → IsOkAnd r (λ j. IsInstalled image j.program j.parameters) → (job : Job) × IsInstalled image job.program job.parameters
some-job (Err e) image h = absurd h
some-job (Ok j) image h = (j, h)

-- a demo that ran
pub performs-demo : (cards seed : ℕ) (image read : List ℕ) (steps size : ℕ) (end : CpuEnd) (files : Option Files) (b : ℕ) (units units' : AllUnits) → read ≡ image → steps ≡ cards + 2 → size ≡ length image → IsDemoImage cards seed image → cards + 2 ≤ 2 ^ 40 → RunsBytes read steps end (tapes_of units) (tapes_of units') → FaultCause end units units' → Performs (Some (demos cards seed)) (ending.Ran end) (demo_line cards size) files files b b units units'
performs-demo cards seed image read steps size end files b units units' so bound sized installed few ran faults =
    let went : RunsBytes image (cards + 2) end (tapes_of units) (tapes_of units') = rw (so, bound) at ran in
    rw sized (ran-done (demos cards seed) end (demo_line cards (length image)) files files b b units units' (leaves-all (Some (demos cards seed)) files files refl) (demo-told cards seed image end files (tapes_of units) (tapes_of units') installed few went) (omega arith)
    (record { ends = λ told. went-ends (cards + 2) (tapes_of units) (tapes_of units') end image (some-job (demo_job cards seed) image installed) went few told (is_free_run end) refl; faults = faults }))

-- one for whose run there was no memory
pub performs-unrun : (cards seed : ℕ) (image read lines : List ℕ) (e : Stop) (files : Option Files) (b : ℕ) (units units' : AllUnits) → read ≡ image → IsDemoImage cards seed image → ((i : Image) → IsImage i → read ≡ spelling i → e ≡ stop.Memory) → units' ≡ units → Performs (Some (demos cards seed)) (ending.Stopped e) lines files files b b units units'
performs-unrun cards seed image read lines e files b units units' so installed accepts still =
    performs-memory (demos cards seed) e lines files files b b units units' (free-refusal image read e so (some-job (demo_job cards seed) image installed) accepts) still (leaves-all (Some (demos cards seed)) files files refl) (omega arith)

stopped-given : (cards seed : ℕ) (e : Stop) (files : Option Files) → (is_free e ≡ false → demo_job cards seed ≡ Err e) → IfSome files (λ m. is_free e ≡ false → StopsSo (Some (demos cards seed)) m e)
stopped-given cards seed e None given = tt
stopped-given cards seed e (Some m) given = given

-- one that has no image
pub performs-unmade : (cards seed : ℕ) (e : Stop) (files : Option Files) (b : ℕ) (units : AllUnits) → (is_free e ≡ false → demo_job cards seed ≡ Err e) → StopCause ⊥ e b b → Performs (Some (demos cards seed)) (ending.Stopped e) [] files files b b units units
performs-unmade cards seed e files b units given cause =
    performs-stop (demos cards seed) e files files b b units (with-files (demos cards seed) e files files refl (stopped-given cards seed e files given)) (leaves-all (Some (demos cards seed)) files files refl) (omega arith) cause
