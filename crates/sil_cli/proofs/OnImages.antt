-- What `run`, `trace` and `list` come to.
use Rattle.std.proofs.Common.{◌≡◌, ◌≢◌, ℕ, ◌+◌, ◌≤◌, ◌^◌, Bool, List, [], length, Option, None, Some, option_map, IfSome, IsOkAnd, true, false, refl, sym, ap, ◌∙◌, subst, inl, inr, Ok, Err, arith}
use Rattle.std.specs.Prelude.{is_some, ⊤}
use Rattle.std.specs.declared.result.Result.{Result}
use Rattle.std.specs.FinMap.{insert}
use Rattle.sil_base.specs.Files.{Files}
use Rattle.sil_base.specs.declared.sink.Put.{Put}
use Rattle.sil_base.specs.declared.sink.Put.TheVariants as puts
use Rattle.unit_io.specs.Tapes.{Tapes, all_told}
use Rattle.unit_io.specs.Units.{AllUnits, tapes_of}
use Rattle.layout_params.specs.Parameters.{Parameters}
use Rattle.sil_model.specs.declared.end.End.{End}
use Rattle.sil_model.specs.declared.program.Program.{Program}
use Rattle.sil_runs.specs.Machine.{machine}
use Rattle.sil_model.specs.Start.{first_state}
use Rattle.image_file.specs.Image.{Image, IsImage}
use Rattle.image_file.specs.ImageGrammar.{IsImageFile}
use Rattle.image_file.specs.Spelling.{spelling}
use Rattle.image_file.proofs.Files.{image_of_file, spelled}
use Rattle.rv_emulate.specs.declared.end.CpuEnd.{CpuEnd}
use Rattle.rv_emulate.specs.declared.end.CpuEnd.TheVariants as run
use Rattle.rv_emulate.specs.EmulatorRuns.{emulation, budget}
use Rattle.rv_operations.specs.Does.{as_end}
use Rattle.sil_check.specs.CheckedPrograms.{Job}
use Rattle.sil_install.specs.Installed.{IsInstalled}
use Rattle.command_report.specs.declared.ending.Ending.{Ending}
use Rattle.command_report.specs.declared.ending.Ending.TheVariants as ending
use Rattle.command_report.specs.declared.ending.Stop.{Stop}
use Rattle.command_report.specs.declared.ending.Stop.TheVariants as stop
use Rattle.command_report.specs.Endings.{demo_line, is_free, is_free_end, is_free_run}
use Rattle.command_report.specs.Noted.{Noted, NotesMore}
use Rattle.command_report.proofs.Noting.{noted-alone, noted-nothing}
use Rattle.command_words.specs.CommandOrders.{SourceNames, CommandOrder, runs, traces, lists, goes, demos}
use Rattle.image_runs.specs.ImageRuns.{FaultCause, IsTold, RunsBytes, RunsSo, IsRefusedRun}
use Rattle.image_runs.specs.Listings.{listing}
use Rattle.image_runs.specs.TracedRuns.{text_lines}
use Rattle.sil_cli.specs.Answer.{Performs, StopsSo, StopsRun, Tells}
use Rattle.sil_cli.specs.CommandFiles.{StopCause, job_at, image_at}
use Rattle.sil_cli.specs.DemoJobs.{demo_job}
use Rattle.sil_cli.specs.Engines.{IsProgramEnd, MayRefuse, engine_of}
use Rattle.sil_cli.specs.Report.{Comes, KeepsOthers, Leaves}
use Rattle.sil_cli.proofs.RunEnds.{IsPlain, HasSmallExit, has-end, run-plain, emulation-small, program-end}
use Rattle.sil_cli.proofs.Commands.{if-mapped, leaves-all, performs-done, performs-stop, ran-done, ran-stage, with-files, StopsWith}
use Rattle.sil_cli.proofs.InstalledRuns.{had-memory}

mapped-self : (o : Option CpuEnd) → option_map (λ x. x) o ≡ o
mapped-self None = refl
mapped-self (Some x) = refl

-- ---- `run`

unloaded-by : (name : List ℕ) (m : Files) (e : Stop) → image_at name m ≡ Err e → StopsRun (image_at name m) e
unloaded-by name m e is = rw is refl

-- a file that can't be had stops its run
pub unloaded : (name : List ℕ) (n : ℕ) (e : Stop) (before : Option Files) → IfSome before (λ m. is_free e ≡ false → image_at name m ≡ Err e) → IfSome before (λ m. is_free e ≡ false → StopsRun (image_at name m) e)
unloaded name n e None given = tt
unloaded name n e (Some m) given = λ kept. unloaded-by name m e (given kept)

pub refused-by : (bytes : List ℕ) (e : Stop) → IsRefusedRun e bytes → is_free e ≡ false → StopsRun (Ok bytes) e
refused-by bytes (stop.Missing name) why kept = absurd why
refused-by bytes (stop.TooLong name) why kept = absurd why
refused-by bytes (stop.StoreFault name) why kept = absurd why
refused-by bytes (stop.Parameters fault) why kept = absurd why
refused-by bytes (stop.Faults faults) why kept = absurd why
refused-by bytes stop.NotBuilt why kept = absurd why
refused-by bytes (stop.ImageRefused part) why kept = (part, refl, why)
refused-by bytes stop.Memory why kept = absurd (let none : ⊥ = cc in none)

-- bytes are refused as an image alone
pub refused-cause : (bytes : List ℕ) (e : Stop) (b a : ℕ) → IsRefusedRun e bytes → StopCause ⊤ e b a
refused-cause bytes (stop.Missing asked) b a why = absurd why
refused-cause bytes (stop.TooLong asked) b a why = absurd why
refused-cause bytes (stop.StoreFault asked) b a why = absurd why
refused-cause bytes (stop.Parameters fault) b a why = absurd why
refused-cause bytes (stop.Faults faults) b a why = absurd why
refused-cause bytes stop.NotBuilt b a why = absurd why
refused-cause bytes (stop.ImageRefused part) b a why = tt
refused-cause bytes stop.Memory b a why = tt

refused-with : (name : List ℕ) (n : ℕ) (bytes : List ℕ) (e : Stop) (before after : Option Files) → after ≡ before → IfSome before (λ m. image_at name m ≡ Ok bytes) → IsRefusedRun e bytes → StopsWith (runs name n) e before after
refused-with name n bytes e None after same is why = tt
refused-with name n bytes e (Some m) after same is why = λ kept. (rw is (refused-by bytes e why kept), same)

-- `run` of bytes that are refused
pub performs-refused-run : (name : List ℕ) (n : ℕ) (read bytes : List ℕ) (e : Stop) (before after : Option Files) (b a : ℕ) (units : AllUnits) → read ≡ bytes → after ≡ before → IfSome before (λ m. image_at name m ≡ Ok bytes) → IsRefusedRun e read → b ≤ a → Performs (Some (runs name n)) (ending.Stopped e) [] before after b a units units
performs-refused-run name n read bytes e before after b a units so same is why count =
    let refused : IsRefusedRun e bytes = rw so at why in
    performs-stop (runs name n) e before after b a units (refused-with name n bytes e before after same is refused) (leaves-all (Some (runs name n)) before after same) count (refused-cause bytes e b a refused)

ran-told : (name : List ℕ) (n : ℕ) (bytes : List ℕ) (image : Image) (end : CpuEnd) (before after : Option Files) (tapes tapes' : Tapes) → after ≡ before → IfSome before (λ m. image_at name m ≡ Ok bytes) → IsImageFile image bytes → RunsBytes bytes n end tapes tapes' → IfSome before (λ m. is_free_end (ending.Ran end) ≡ false → Comes (Some (runs name n)) m tapes (ending.Ran end) [] after tapes')
ran-told name n bytes image end None after tapes tapes' same is file ran = tt
ran-told name n bytes image end (Some m) after tapes tapes' same is file ran = λ kept.
    let so = ran image (image_of_file image bytes file) (spelled image bytes file) in
    record {
      image = [];
      found = Ok image;
      installed = tt;
      finds = rw is file;
      saves = same;
      stage = rw is (if-mapped (emulation image tapes n (budget image n)).end _ _ (ran-stage (λ x. x) _ end [] [] _ tapes' m after (λ h. mapped-self _ ∙ so.ends (had-memory end kept) h) (λ h. refl) (so.leaves (had-memory end kept)) same));
    }

-- `run` of an image
pub performs-ran : (name : List ℕ) (n : ℕ) (read bytes : List ℕ) (end : CpuEnd) (before after : Option Files) (b a : ℕ) (units units' : AllUnits) → read ≡ bytes → after ≡ before → IfSome before (λ m. image_at name m ≡ Ok bytes) → (image : Image) × IsImageFile image read → RunsBytes read n end (tapes_of units) (tapes_of units') → FaultCause end units units' → b ≤ a → Performs (Some (runs name n)) (ending.Ran end) [] before after b a units units'
performs-ran name n read bytes end before after b a units units' so same is some ran faults count =
    let file : IsImageFile some.0 bytes = rw so at some.1 in
    let runs_so : RunsBytes bytes n end (tapes_of units) (tapes_of units') = rw so at ran in
    ran-done (runs name n) end [] before after b a units units' (leaves-all (Some (runs name n)) before after same) (ran-told name n bytes some.0 end before after (tapes_of units) (tapes_of units') same is file runs_so) count (record { ends = tt; faults = faults })

-- ---- `trace`

traced-told : (name : List ℕ) (n : ℕ) (image : Image) (end : CpuEnd) (lines : List ℕ) (before after : Option Files) (tapes tapes' : Tapes) → after ≡ before → IfSome before (λ m. IsOkAnd (image_at name m) (IsImageFile image)) → RunsSo image n end tapes tapes' → (end ≢ run.Memory → IsTold image tapes n → lines ≡ text_lines image (emulation image tapes n (budget image n)).met) → IfSome before (λ m. is_free_end (ending.Ran end) ≡ false → Comes (Some (traces name n)) m tapes (ending.Ran end) lines after tapes')
traced-told name n image end lines None after tapes tapes' same is so tells = tt
traced-told name n image end lines (Some m) after tapes tapes' same is so tells = λ kept. traced (image_at name m) refl is (had-memory end kept)
  where
    traced : (r : Result (List ℕ) Stop) → image_at name m ≡ r → IsOkAnd r (IsImageFile image) → end ≢ run.Memory → Comes (Some (traces name n)) m tapes (ending.Ran end) lines after tapes'
    traced (Err e) at file had = absurd file
    traced (Ok bytes) at file had = record {
      image = [];
      found = Ok image;
      installed = tt;
      finds = rw at file;
      saves = same;
      stage = rw at (if-mapped (emulation image tapes n (budget image n)).end _ _ (ran-stage (λ x. x) _ end _ lines _ tapes' m after (λ h. mapped-self _ ∙ so.ends had h) (tells had) (so.leaves had) same));
    }

-- `trace` of an image
pub performs-traced : (name : List ℕ) (n : ℕ) (image : Image) (end : CpuEnd) (lines : List ℕ) (before after : Option Files) (b a : ℕ) (units units' : AllUnits) → after ≡ before → IfSome before (λ m. IsOkAnd (image_at name m) (IsImageFile image)) → RunsSo image n end (tapes_of units) (tapes_of units') → (end ≢ run.Memory → IsTold image (tapes_of units) n → lines ≡ text_lines image (emulation image (tapes_of units) n (budget image n)).met) → FaultCause end units units' → b ≤ a → Performs (Some (traces name n)) (ending.Ran end) lines before after b a units units'
performs-traced name n image end lines before after b a units units' same is so tells faults count =
    ran-done (traces name n) end lines before after b a units units' (leaves-all (Some (traces name n)) before after same) (traced-told name n image end lines before after (tapes_of units) (tapes_of units') same is so tells) count (record { ends = tt; faults = faults })

-- a file that is no image, or that can't be had, stops its trace
pub performs-untraced : (name : List ℕ) (n : ℕ) (e : Stop) (before after : Option Files) (b a : ℕ) (units : AllUnits) → after ≡ before → IfSome before (λ m. is_free e ≡ false → StopsRun (image_at name m) e) → b ≤ a → StopCause ⊤ e b a → Performs (Some (traces name n)) (ending.Stopped e) [] before after b a units units
performs-untraced name n e before after b a units same given count cause =
    performs-stop (traces name n) e before after b a units (with-files (traces name n) e before after same given) (leaves-all (Some (traces name n)) before after same) count cause

-- ---- `list`

listed-told : (name : List ℕ) (image : Image) (before after : Option Files) (tapes : Tapes) → after ≡ before → IfSome before (λ m. IsOkAnd (image_at name m) (IsImageFile image)) → IfSome before (λ m. is_free_end ending.Listed ≡ false → Comes (Some (lists name)) m tapes ending.Listed (listing image) after tapes)
listed-told name image None after tapes same is = tt
listed-told name image (Some m) after tapes same is = λ kept. listed (image_at name m) refl is
  where
    listed : (r : Result (List ℕ) Stop) → image_at name m ≡ r → IsOkAnd r (IsImageFile image) → Comes (Some (lists name)) m tapes ending.Listed (listing image) after tapes
    listed (Err e) at file = absurd file
    listed (Ok bytes) at file = record {
      image = [];
      found = Ok image;
      installed = tt;
      finds = rw at file;
      saves = same;
      stage = rw at (refl, refl, same, refl);
    }

-- `list` of an image
pub performs-listed : (name : List ℕ) (image : Image) (before after : Option Files) (b a : ℕ) (units : AllUnits) → after ≡ before → IfSome before (λ m. IsOkAnd (image_at name m) (IsImageFile image)) → b ≤ a → Performs (Some (lists name)) ending.Listed (listing image) before after b a units units
performs-listed name image before after b a units same is count =
    performs-done (lists name) ending.Listed (listing image) before after b a units units (record {
      unrefused = λ x. let none : ⊥ = cc in none;
      apart = λ s x. let none : ⊥ = cc in none;
      still = λ x. refl;
      leaves = leaves-all (Some (lists name)) before after same;
      told = listed-told name image before after (tapes_of units) same is;
    }) count tt tt

-- a file that is no image, or that can't be had, stops its list
pub performs-unlisted : (name : List ℕ) (e : Stop) (before after : Option Files) (b a : ℕ) (units : AllUnits) → after ≡ before → IfSome before (λ m. is_free e ≡ false → StopsRun (image_at name m) e) → b ≤ a → StopCause ⊤ e b a → Performs (Some (lists name)) (ending.Stopped e) [] before after b a units units
performs-unlisted name e before after b a units same given count cause =
    performs-stop (lists name) e before after b a units (with-files (lists name) e before after same given) (leaves-all (Some (lists name)) before after same) count cause
