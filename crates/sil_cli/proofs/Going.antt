-- What `go` comes to: the saved image is loaded again, and run.
use Rattle.std.proofs.Common.{◌≡◌, ◌≢◌, ℕ, ◌+◌, ◌≤◌, ◌^◌, Bool, List, [], length, Option, None, Some, option_map, IfSome, IsOkAnd, true, false, refl, sym, ap, ◌∙◌, subst, inl, inr, Ok, Err, arith}
use Rattle.std.specs.Prelude.{is_some, ⊤}
use Rattle.std.specs.declared.result.Result.{Result}
use Rattle.std.specs.FinMap.{insert}
use Rattle.sil_base.specs.Files.{Files}
use Rattle.sil_base.specs.declared.sink.Put.{Put}
use Rattle.sil_base.specs.declared.sink.Put.TheVariants as puts
use Rattle.unit_io.specs.Tapes.{Tapes, all_told}
use Rattle.unit_io.specs.Units.{AllUnits, tapes_of}
use Rattle.layout_params.specs.Parameters.{Parameters}
use Rattle.sil_model.specs.declared.end.End.{End}
use Rattle.sil_model.specs.declared.program.Program.{Program}
use Rattle.sil_runs.specs.Machine.{machine}
use Rattle.sil_model.specs.Start.{first_state}
use Rattle.image_file.specs.Image.{Image, IsImage}
use Rattle.image_file.specs.ImageGrammar.{IsImageFile}
use Rattle.image_file.specs.Spelling.{spelling}
use Rattle.image_file.proofs.Files.{image_of_file, spelled}
use Rattle.rv_emulate.specs.declared.end.CpuEnd.{CpuEnd}
use Rattle.rv_emulate.specs.declared.end.CpuEnd.TheVariants as run
use Rattle.rv_emulate.specs.EmulatorRuns.{emulation, budget}
use Rattle.rv_operations.specs.Does.{as_end}
use Rattle.sil_check.specs.CheckedPrograms.{Job}
use Rattle.sil_install.specs.Installed.{IsInstalled}
use Rattle.command_report.specs.declared.ending.Ending.{Ending}
use Rattle.command_report.specs.declared.ending.Ending.TheVariants as ending
use Rattle.command_report.specs.declared.ending.Stop.{Stop}
use Rattle.command_report.specs.declared.ending.Stop.TheVariants as stop
use Rattle.command_report.specs.Endings.{demo_line, is_free, is_free_end, is_free_run}
use Rattle.command_report.specs.Noted.{Noted, NotesMore}
use Rattle.command_report.proofs.Noting.{noted-alone, noted-nothing}
use Rattle.command_words.specs.CommandOrders.{SourceNames, CommandOrder, runs, traces, lists, goes, demos}
use Rattle.image_runs.specs.ImageRuns.{FaultCause, IsTold, RunsBytes, RunsSo, IsRefusedRun}
use Rattle.image_runs.specs.Listings.{listing}
use Rattle.image_runs.specs.TracedRuns.{text_lines}
use Rattle.sil_cli.specs.Answer.{Performs, StopsSo, StopsRun, Tells}
use Rattle.sil_cli.specs.CommandFiles.{StopCause, job_at, image_at}
use Rattle.sil_cli.specs.DemoJobs.{demo_job}
use Rattle.sil_cli.specs.Engines.{IsProgramEnd, MayRefuse, engine_of}
use Rattle.sil_cli.specs.Report.{Comes, KeepsOthers, Leaves}
use Rattle.sil_cli.proofs.RunEnds.{IsPlain, HasSmallExit, has-end, run-plain, emulation-small, program-end}
use Rattle.sil_cli.proofs.Commands.{IsSaved, if-mapped, performs-stop, ran-done, ran-stage, StopsWith}
use Rattle.sil_cli.proofs.InstalledRuns.{free-refusal, had-memory, installed-end, installed-tapes, went-ends}
use Rattle.sil_cli.proofs.ImageLengths.{saved-is-loaded}

-- where the store tells its files, the bytes that are loaded after the save are those that were saved
abbrev pub IsLoaded : List ℕ → List ℕ → List ℕ → Option Files → Type 0
IsLoaded name image bytes before = IfSome before (λ m. bytes ≡ image)

comes-ran : (names : SourceNames) (name : List ℕ) (steps : ℕ) (m : Files) (tapes tapes' : Tapes) (end : CpuEnd) (image : List ℕ) (after : Option Files) (r : Result Job Stop) → job_at names m ≡ r → IsOkAnd r (λ j. IsInstalled image j.program j.parameters) → after ≡ Some (insert m name image) → steps ≤ 2 ^ 40 → RunsBytes image steps end tapes tapes' → end ≢ run.Memory → Comes (Some (goes names name steps)) m tapes (ending.Ran end) [] after tapes'
comes-ran names name steps m tapes tapes' end image after (Err e) same installed saved few went had = absurd installed
comes-ran names name steps m tapes tapes' end image after (Ok j) same installed saved few went had = record {
  image = image;
  found = Err 0;
  installed = rw same installed;
  finds = tt;
  saves = rw same saved;
  stage = rw same (if-mapped (machine j.program j.parameters tapes steps).end _ _ (ran-stage as_end _ end [] [] _ tapes' (insert m name image) after (installed-end image j.program j.parameters steps end tapes tapes' installed few went had) (λ h. refl) (installed-tapes image j.program j.parameters steps end tapes tapes' installed few went had) saved));
}

went-told : (names : SourceNames) (name : List ℕ) (steps : ℕ) (image : List ℕ) (end : CpuEnd) (before after : Option Files) (tapes tapes' : Tapes) → IsSaved names name image before after → steps ≤ 2 ^ 40 → RunsBytes image steps end tapes tapes' → IfSome before (λ m. is_free_end (ending.Ran end) ≡ false → Comes (Some (goes names name steps)) m tapes (ending.Ran end) [] after tapes')
went-told names name steps image end None after tapes tapes' saved few went = tt
went-told names name steps image end (Some m) after tapes tapes' saved few went = λ kept. comes-ran names name steps m tapes tapes' end image after (job_at names m) refl saved.0 saved.1 few went (had-memory end kept)

same-bytes : (r : Result (List ℕ) Stop) (bytes image : List ℕ) → r ≡ Ok bytes → r ≡ Ok image → bytes ≡ image
same-bytes (Ok x) bytes image is was = let one : x ≡ bytes = cc in let other : x ≡ image = cc in sym one ∙ other
same-bytes (Err e) bytes image is was = absurd (let none : ⊥ = cc in none)

-- the bytes that were loaded from files where the image was saved
pub loaded-same : (names : SourceNames) (name image bytes : List ℕ) (before between : Option Files) → (job : Job) × IsInstalled image job.program job.parameters → IsSaved names name image before between → IfSome between (λ m. image_at name m ≡ Ok bytes) → IfSome before (λ m. bytes ≡ image)
loaded-same names name image bytes None between some saved loads = tt
loaded-same names name image bytes (Some m) between some saved loads =
    let at : image_at name (insert m name image) ≡ Ok bytes = rw saved.1 at loads in
    same-bytes (image_at name (insert m name image)) bytes image at (saved-is-loaded m name image some.1)

loaded-told : (names : SourceNames) (name : List ℕ) (steps : ℕ) (image bytes : List ℕ) (end : CpuEnd) (before after : Option Files) (tapes tapes' : Tapes) → IsLoaded name image bytes before → IsSaved names name image before after → steps ≤ 2 ^ 40 → RunsBytes bytes steps end tapes tapes' → IfSome before (λ m. is_free_end (ending.Ran end) ≡ false → Comes (Some (goes names name steps)) m tapes (ending.Ran end) [] after tapes')
loaded-told names name steps image bytes end None after tapes tapes' same saved few went = tt
loaded-told names name steps image bytes end (Some m) after tapes tapes' same saved few went = went-told names name steps image end (Some m) after tapes tapes' saved few (rw same at went)

loaded-ends : (names : SourceNames) (name : List ℕ) (steps : ℕ) (image bytes : List ℕ) (end : CpuEnd) (before : Option Files) (tapes tapes' : Tapes) → IsLoaded name image bytes before → (job : Job) × IsInstalled image job.program job.parameters → steps ≤ 2 ^ 40 → RunsBytes bytes steps end tapes tapes' → is_some before ≡ true → all_told tapes ≡ true → IsProgramEnd end
loaded-ends names name steps image bytes end None tapes tapes' same some few went stored told = absurd (let none : ⊥ = cc in none)
loaded-ends names name steps image bytes end (Some m) tapes tapes' same some few went stored told = went-ends steps tapes tapes' end image some (rw same at went) few told (is_free_run end) refl

-- `go` of a program
pub performs-went : (names : SourceNames) (name : List ℕ) (steps : ℕ) (image bytes read : List ℕ) (end : CpuEnd) (before between after : Option Files) (b a : ℕ) (units units' : AllUnits) → read ≡ bytes → after ≡ between → IsSaved names name image before between → (job : Job) × IsInstalled image job.program job.parameters → IfSome between (λ m. image_at name m ≡ Ok bytes) → IfSome before (λ m. KeepsOthers names name m between) → steps ≤ 2 ^ 40 → RunsBytes read steps end (tapes_of units) (tapes_of units') → FaultCause end units units' → b ≤ a → Performs (Some (goes names name steps)) (ending.Ran end) [] before after b a units units'
performs-went names name steps image bytes read end before between after b a units units' so kept saved some loads leaves few ran faults count =
    let went : RunsBytes bytes steps end (tapes_of units) (tapes_of units') = rw so at ran in
    let same = loaded-same names name image bytes before between some saved loads in
    rw kept (ran-done (goes names name steps) end [] before between b a units units' leaves (loaded-told names name steps image bytes end before between (tapes_of units) (tapes_of units') same saved few went) count
    (record { ends = λ stored told. loaded-ends names name steps image bytes end before (tapes_of units) (tapes_of units') same some few went stored told; faults = faults }))

-- ---- stopped after the save

free-only : (names : SourceNames) (name : List ℕ) (steps : ℕ) (e : Stop) (before after : Option Files) → IfSome before (λ m. is_free e ≡ true) → StopsWith (goes names name steps) e before after
free-only names name steps e None after free = tt
free-only names name steps e (Some m) after free = λ kept. let no : true ≡ false = sym free ∙ kept in absurd (let none : ⊥ = cc in none)

free-load : (free : Bool) (e : Stop) (image : List ℕ) (r : Result (List ℕ) Stop) → is_free e ≡ free → r ≡ Ok image → (is_free e ≡ false → r ≡ Err e) → is_free e ≡ true
free-load true e image r is ok fails = is
free-load false e image r is ok fails = let no : Ok image ≡ Err e = sym ok ∙ fails is in absurd (let none : ⊥ = cc in none)

-- where the store tells its files, no load of what was saved fails but for a fault of the store or want of memory
unloaded-free : (names : SourceNames) (name image : List ℕ) (e : Stop) (before between : Option Files) → (job : Job) × IsInstalled image job.program job.parameters → IsSaved names name image before between → IfSome between (λ m. is_free e ≡ false → image_at name m ≡ Err e) → IfSome before (λ m. is_free e ≡ true)
unloaded-free names name image e None between some saved fails = tt
unloaded-free names name image e (Some m) between some saved fails = free-load (is_free e) e image (image_at name (insert m name image)) refl (saved-is-loaded m name image some.1) (rw saved.1 at fails)

wider-cause : (refuses : Type 0) (e : Stop) (b c a : ℕ) → b ≤ c → StopCause ⊥ e c a → StopCause refuses e b a
wider-cause refuses (stop.Missing name) b c a le h = tt
wider-cause refuses (stop.TooLong name) b c a le h = tt
wider-cause refuses (stop.StoreFault name) b c a le h = omega (arith, le)
wider-cause refuses (stop.Parameters fault) b c a le h = tt
wider-cause refuses (stop.Faults faults) b c a le h = tt
wider-cause refuses stop.NotBuilt b c a le h = tt
wider-cause refuses (stop.ImageRefused part) b c a le h = absurd h
wider-cause refuses stop.Memory b c a le h = tt

-- the saved image can't be loaded
pub performs-unloaded : (names : SourceNames) (name : List ℕ) (steps : ℕ) (image : List ℕ) (e : Stop) (before between after : Option Files) (b c a : ℕ) (units : AllUnits) → after ≡ between → IsSaved names name image before between → (job : Job) × IsInstalled image job.program job.parameters → IfSome between (λ m. is_free e ≡ false → image_at name m ≡ Err e) → IfSome before (λ m. KeepsOthers names name m between) → b ≤ c → c ≤ a → StopCause ⊥ e c a → Performs (Some (goes names name steps)) (ending.Stopped e) [] before after b a units units
performs-unloaded names name steps image e before between after b c a units kept saved some fails leaves first second cause =
    rw kept (performs-stop (goes names name steps) e before between b a units (free-only names name steps e before between (unloaded-free names name image e before between some saved fails)) leaves (omega (arith, first, second)) (wider-cause (MayRefuse (engine_of (Some (goes names name steps))) (is_some before)) e b c a first cause))

refused-cause : (bytes : List ℕ) (e : Stop) (stored : Bool) (b a : ℕ) → IsRefusedRun e bytes → (stored ≡ true → e ≡ stop.Memory) → StopCause (stored ≡ false) e b a
refused-cause bytes (stop.Missing asked) stored b a why none = absurd why
refused-cause bytes (stop.TooLong asked) stored b a why none = absurd why
refused-cause bytes (stop.StoreFault asked) stored b a why none = absurd why
refused-cause bytes (stop.Parameters fault) stored b a why none = absurd why
refused-cause bytes (stop.Faults faults) stored b a why none = absurd why
refused-cause bytes stop.NotBuilt stored b a why none = absurd why
refused-cause bytes (stop.ImageRefused part) true b a why none = let no : stop.ImageRefused part ≡ stop.Memory = none refl in absurd (let none : ⊥ = cc in none)
refused-cause bytes (stop.ImageRefused part) false b a why none = refl
refused-cause bytes stop.Memory stored b a why none = tt

-- where the store tells its files, what was loaded is the saved image, which isn't refused
given-memory : (name image bytes : List ℕ) (e : Stop) (before : Option Files) → IsLoaded name image bytes before → (job : Job) × IsInstalled image job.program job.parameters → ((i : Image) → IsImage i → bytes ≡ spelling i → e ≡ stop.Memory) → is_some before ≡ true → e ≡ stop.Memory
given-memory name image bytes e None same some accepts stored = absurd (let none : ⊥ = cc in none)
given-memory name image bytes e (Some m) same some accepts stored = free-refusal image bytes e same some accepts

free-memory-only : (e : Stop) (before : Option Files) → (is_some before ≡ true → e ≡ stop.Memory) → IfSome before (λ m. is_free e ≡ true)
free-memory-only e None given = tt
free-memory-only e (Some m) given = ap is_free (given refl)

-- the loaded bytes are refused
pub performs-given-refused : (names : SourceNames) (name : List ℕ) (steps : ℕ) (image bytes read : List ℕ) (e : Stop) (before between after : Option Files) (b a : ℕ) (units : AllUnits) → read ≡ bytes → after ≡ between → IsSaved names name image before between → (job : Job) × IsInstalled image job.program job.parameters → IfSome between (λ m. image_at name m ≡ Ok bytes) → IfSome before (λ m. KeepsOthers names name m between) → IsRefusedRun e read → ((i : Image) → IsImage i → read ≡ spelling i → e ≡ stop.Memory) → b ≤ a → Performs (Some (goes names name steps)) (ending.Stopped e) [] before after b a units units
performs-given-refused names name steps image bytes read e before between after b a units so kept saved some loads leaves refused accepts count =
    let same = loaded-same names name image bytes before between some saved loads in
    let given = given-memory name image bytes e before same some (rw so at accepts) in
    rw kept (performs-stop (goes names name steps) e before between b a units (free-only names name steps e before between (free-memory-only e before given)) leaves count (refused-cause bytes e (is_some before) b a (rw so at refused) given))
