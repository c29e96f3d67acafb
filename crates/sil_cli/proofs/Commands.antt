-- What commands come to.
use Rattle.std.proofs.Common.{◌≡◌, ◌≢◌, ℕ, ◌≤◌, ◌^◌, Bool, List, [], length, Option, None, Some, option_map, IfSome, IsOkAnd, true, false, refl, sym, ap, ◌∙◌, subst, inl, inr, Ok, Err, arith}
use Rattle.std.specs.Prelude.{is_some, IfOk, IsErrAnd}
use Rattle.std.specs.declared.result.Result.{Result}
use Rattle.std.specs.FinMap.{insert}
use Rattle.sil_base.specs.Files.{Files}
use Rattle.unit_io.specs.Tapes.{Tapes, all_told}
use Rattle.unit_io.specs.Units.{AllUnits, RoseAt, tapes_of}
use Rattle.layout_params.specs.Areas.{all_cells}
use Rattle.layout_params.specs.Parameters.{Parameters}
use Rattle.sil_model.specs.declared.end.End.{End}
use Rattle.sil_model.specs.declared.end.End.TheVariants as ends
use Rattle.sil_model.specs.declared.program.Program.{Program}
use Rattle.sil_runs.specs.Machine.{machine}
use Rattle.image_file.specs.Image.{Image}
use Rattle.rv_emulate.specs.declared.end.CpuEnd.{CpuEnd}
use Rattle.rv_emulate.specs.declared.end.CpuEnd.TheVariants as run
use Rattle.rv_operations.specs.Does.{as_end}
use Rattle.sil_check.specs.CheckedPrograms.{Job}
use Rattle.sil_install.specs.Installed.{IsInstalled}
use Rattle.command_report.specs.declared.ending.Ending.{Ending}
use Rattle.command_report.specs.declared.ending.Ending.TheVariants as ending
use Rattle.command_report.specs.declared.ending.Stop.{Stop}
use Rattle.command_report.specs.declared.ending.Stop.TheVariants as stop
use Rattle.command_report.specs.Endings.{ending_of, is_free, is_free_end, is_free_run, has_run}
use Rattle.command_words.specs.CommandOrders.{SourceNames, CommandOrder, checks, installs, runs, traces, simulates, lists, goes, demos}
use Rattle.sil_cli.specs.Answer.{Performs, StopsSo, StopsRun}
use Rattle.sil_cli.specs.CommandFiles.{SavesOr, StopCause, job_at, image_at}
use Rattle.sil_cli.specs.Engines.{IsMachineEnd, MayRefuse, RanSo, engine_of}
use Rattle.image_runs.specs.ImageRuns.{FaultCause}
use Rattle.sil_cli.specs.Report.{Comes, EndingCause, IsFound, KeepsOthers, Leaves, RunCaused, Stage, list_found, run_found, stopped, trace_found}
use Rattle.sil_check.specs.Inputs.{on_result}
use Rattle.sil_cli.proofs.Maps.{remove-insert}

-- the stop of a call is that of its caller
pub residual : (order : CommandOrder) (r : Result Ending Stop) (e : Stop) (before after : Option Files) (b a : ℕ) (units units' : AllUnits) → IsErrAnd r (λ y. y ≡ e) → Performs (Some order) (ending.Stopped e) [] before after b a units units' → Performs (Some order) (ending_of r) [] before after b a units units'
residual order (Ok x) e before after b a units units' h done = absurd h
residual order (Err y) e before after b a units units' h done = rw h done

-- ---- files

keeps-file : {T E : Type 0} (names : SourceNames) (name : List ℕ) (m : Files) (after : Option Files) (r : Result T E) (image : List ℕ) (P : Job → Type 0) → IsOkAnd (job_at names m) P → SavesOr r name image m after → KeepsOthers names name m after
keeps-file names name m after (Ok x) image P ok saves = record {
  others = rw saves (remove-insert m name image);
  all = λ stop e. absurd (rw e at ok);
}
keeps-file names name m after (Err e) image P ok saves = record { others = saves; all = λ stop e. absurd (rw e at ok) }

-- a save of the image of a program leaves the other files
pub keeps-saved : {T E : Type 0} (names : SourceNames) (name : List ℕ) (before between after : Option Files) (r : Result T E) (image : List ℕ) (P : Job → Type 0) → between ≡ before → IfSome before (λ m. IsOkAnd (job_at names m) P) → IfSome between (λ m. SavesOr r name image m after) → IfSome before (λ m. KeepsOthers names name m after)
keeps-saved names name None between after r image P same ok saves = tt
keeps-saved names name (Some m) between after r image P same ok saves = keeps-file names name m after r image P ok (rw same at saves)

leaves-one : (order : Option CommandOrder) (m : Files) (after : Option Files) → after ≡ Some m → Leaves order m after
leaves-one None m after same = same
leaves-one (Some (checks names)) m after same = same
leaves-one (Some (installs names name)) m after same = record { others = rw same refl; all = λ stop e. same }
leaves-one (Some (runs name n)) m after same = same
leaves-one (Some (traces name n)) m after same = same
leaves-one (Some (simulates names n)) m after same = same
leaves-one (Some (lists name)) m after same = same
leaves-one (Some (goes names name n)) m after same = record { others = rw same refl; all = λ stop e. same }
leaves-one (Some (demos cards seed)) m after same = same

-- a command may leave all files
pub leaves-all : (order : Option CommandOrder) (before after : Option Files) → after ≡ before → IfSome before (λ m. Leaves order m after)
leaves-all order None after same = tt
leaves-all order (Some m) after same = leaves-one order m after same

-- ---- stopped

same-stopped : (x y : Stop) → ending.Stopped x ≡ ending.Stopped y → x ≡ y
same-stopped x y e = cc

-- a cause without a refusal is one with any
any-cause : (refuses : Type 0) (e : Stop) (b a : ℕ) → StopCause ⊥ e b a → StopCause refuses e b a
any-cause refuses (stop.Missing name) b a h = tt
any-cause refuses (stop.TooLong name) b a h = tt
any-cause refuses (stop.StoreFault name) b a h = h
any-cause refuses (stop.Parameters fault) b a h = tt
any-cause refuses (stop.Faults faults) b a h = tt
any-cause refuses stop.NotBuilt b a h = tt
any-cause refuses (stop.ImageRefused part) b a h = absurd h
any-cause refuses stop.Memory b a h = tt

-- what stops a command at an image file, whatever it does with an image
stage-stopped : (go : Result Image ℕ → Option Stage) (m : Files) (tapes : Tapes) (e : Stop) (loaded : Result (List ℕ) Stop) → ((part : ℕ) → go (Err part) ≡ stopped m tapes (stop.ImageRefused part)) → StopsRun loaded e → (found : Result Image ℕ) × IfOk loaded (λ bytes. IsFound found bytes) × (on_result loaded (λ bytes. go found) (stopped m tapes) ≡ stopped m tapes e)
stage-stopped go m tapes e (Err x) refuses stops = (Err 0, tt, ap (stopped m tapes) (sym stops))
stage-stopped go m tapes e (Ok bytes) refuses stops = (Err stops.0, stops.2, refuses stops.0 ∙ ap (stopped m tapes) (sym stops.1))

-- a command that its files stop comes to that, and leaves all
comes-stopped : (order : CommandOrder) (m : Files) (tapes : Tapes) (e : Stop) → StopsSo (Some order) m e → Comes (Some order) m tapes (ending.Stopped e) [] (Some m) tapes
comes-stopped (checks names) m tapes e stops = record { image = []; found = Err 0; installed = tt; finds = tt; saves = refl; stage = rw stops (refl, refl, refl, refl) }
comes-stopped (installs names name) m tapes e stops = record { image = []; found = Err 0; installed = rw stops tt; finds = tt; saves = rw stops tt; stage = rw stops (refl, refl, refl, refl) }
comes-stopped (runs name n) m tapes e stops =
    let s = stage-stopped (λ found. run_found found n m tapes) m tapes e (image_at name m) (λ part. refl) stops in
    record { image = []; found = s.0; installed = tt; finds = s.1; saves = refl; stage = rw s.2 (refl, refl, refl, refl) }
comes-stopped (traces name n) m tapes e stops =
    let s = stage-stopped (λ found. trace_found found n m tapes) m tapes e (image_at name m) (λ part. refl) stops in
    record { image = []; found = s.0; installed = tt; finds = s.1; saves = refl; stage = rw s.2 (refl, refl, refl, refl) }
comes-stopped (simulates names n) m tapes e stops = record { image = []; found = Err 0; installed = tt; finds = tt; saves = refl; stage = rw stops (refl, refl, refl, refl) }
comes-stopped (lists name) m tapes e stops =
    let s = stage-stopped (λ found. list_found found m tapes) m tapes e (image_at name m) (λ part. refl) stops in
    record { image = []; found = s.0; installed = tt; finds = s.1; saves = refl; stage = rw s.2 (refl, refl, refl, refl) }
comes-stopped (goes names name n) m tapes e stops = record { image = []; found = Err 0; installed = rw stops tt; finds = tt; saves = rw stops tt; stage = rw stops (refl, refl, refl, refl) }
comes-stopped (demos cards seed) m tapes e stops = record { image = []; found = Err 0; installed = rw stops tt; finds = tt; saves = refl; stage = rw stops (refl, refl, refl, refl) }

-- what stops a command is what its files stop it by, and then they stay; or it has no cause in them
abbrev pub StopsWith : CommandOrder → Stop → Option Files → Option Files → Type 0
StopsWith order e before after = IfSome before (λ m. is_free e ≡ false → StopsSo (Some order) m e × (after ≡ Some m))

stopped-by : (order : CommandOrder) (e : Stop) (before after : Option Files) → StopsWith order e before after → IfSome before (λ m. (s : Stop) → ending.Stopped e ≡ ending.Stopped s → is_free s ≡ false → StopsSo (Some order) m s)
stopped-by order e None after given = tt
stopped-by order e (Some m) after given = λ s is kept.
    let same : e ≡ s = same-stopped _ _ is in
    rw (sym same) ((given (rw (sym same) at kept)).0)

stopped-told : (order : CommandOrder) (e : Stop) (before after : Option Files) (tapes : Tapes) → StopsWith order e before after → IfSome before (λ m. is_free_end (ending.Stopped e) ≡ false → Comes (Some order) m tapes (ending.Stopped e) [] after tapes)
stopped-told order e None after tapes given = tt
stopped-told order e (Some m) after tapes given = λ kept. rw ((given kept).1) (comes-stopped order m tapes e (given kept).0)

performs-ended : (order : CommandOrder) (e : Stop) (lines : List ℕ) (before after : Option Files) (b a : ℕ) (units units' : AllUnits) → units' ≡ units → IfSome before (λ m. (s : Stop) → ending.Stopped e ≡ ending.Stopped s → is_free s ≡ false → StopsSo (Some order) m s) → IfSome before (λ m. is_free_end (ending.Stopped e) ≡ false → Comes (Some order) m (tapes_of units) (ending.Stopped e) lines after (tapes_of units)) → IfSome before (λ m. Leaves (Some order) m after) → b ≤ a → StopCause (MayRefuse (engine_of (Some order)) (is_some before)) e b a → Performs (Some order) (ending.Stopped e) lines before after b a units units'
performs-ended order e lines before after b a units units' still stops told leaves count cause = rw still (record {
  words = (λ x. absurd (let none : ⊥ = cc in none), λ x. absurd (let none : ⊥ = cc in none));
  causes = record { count = count; cause = cause };
  ran = tt;
  still = λ x. refl;
  leaves = leaves;
  stops = stops;
  told = told;
})

pub performs-stop : (order : CommandOrder) (e : Stop) (before after : Option Files) (b a : ℕ) (units : AllUnits) → StopsWith order e before after → IfSome before (λ m. Leaves (Some order) m after) → b ≤ a → StopCause (MayRefuse (engine_of (Some order)) (is_some before)) e b a → Performs (Some order) (ending.Stopped e) [] before after b a units units
performs-stop order e before after b a units given leaves count cause =
    performs-ended order e [] before after b a units units refl (stopped-by order e before after given) (stopped-told order e before after (tapes_of units) given) leaves count cause

pub with-files : (order : CommandOrder) (e : Stop) (before after : Option Files) → after ≡ before → IfSome before (λ m. is_free e ≡ false → StopsSo (Some order) m e) → StopsWith order e before after
with-files order e None after same given = tt
with-files order e (Some m) after same given = λ kept. (given kept, same)

-- a command that stops before it saves anything
pub performs-stopped : (order : CommandOrder) (e : Stop) (before after : Option Files) (b a : ℕ) (units : AllUnits) → after ≡ before → IfSome before (λ m. is_free e ≡ false → StopsSo (Some order) m e) → b ≤ a → StopCause ⊥ e b a → Performs (Some order) (ending.Stopped e) [] before after b a units units
performs-stopped order e before after b a units same given count cause =
    performs-stop order e before after b a units (with-files order e before after same given) (leaves-all (Some order) before after same) count (any-cause (MayRefuse (engine_of (Some order)) (is_some before)) e b a cause)

-- one that may have saved
pub performs-unsaved : (order : CommandOrder) (e : Stop) (before after : Option Files) (b a : ℕ) (units : AllUnits) → IfSome before (λ m. is_free e ≡ false → StopsSo (Some order) m e × (after ≡ Some m)) → IfSome before (λ m. Leaves (Some order) m after) → b ≤ a → StopCause ⊥ e b a → Performs (Some order) (ending.Stopped e) [] before after b a units units
performs-unsaved order e before after b a units given leaves count cause =
    performs-stop order e before after b a units given leaves count (any-cause (MayRefuse (engine_of (Some order)) (is_some before)) e b a cause)

no-stops : (order : Option CommandOrder) (before : Option Files) → IfSome before (λ m. (s : Stop) → ending.Stopped stop.Memory ≡ ending.Stopped s → is_free s ≡ false → StopsSo order m s)
no-stops order None = tt
no-stops order (Some m) = λ s is kept.
    let same : stop.Memory ≡ s = same-stopped _ _ is in
    let no : is_free stop.Memory ≡ false = subst (λ x. is_free x ≡ false) (sym same) kept in
    absurd (let none : ⊥ = cc in none)

untold : (order : Option CommandOrder) (lines : List ℕ) (before after : Option Files) (tapes : Tapes) → IfSome before (λ m. is_free_end (ending.Stopped stop.Memory) ≡ false → Comes order m tapes (ending.Stopped stop.Memory) lines after tapes)
untold order lines None after tapes = tt
untold order lines (Some m) after tapes = λ kept. absurd (let none : ⊥ = cc in none)

-- a command that memory ran out for, whatever it told before
pub performs-memory : (order : CommandOrder) (e : Stop) (lines : List ℕ) (before after : Option Files) (b a : ℕ) (units units' : AllUnits) → e ≡ stop.Memory → units' ≡ units → IfSome before (λ m. Leaves (Some order) m after) → b ≤ a → Performs (Some order) (ending.Stopped e) lines before after b a units units'
performs-memory order e lines before after b a units units' is still leaves count =
    rw is (performs-ended order stop.Memory lines before after b a units units' still (no-stops (Some order) before) (untold (Some order) lines before after (tapes_of units)) leaves count tt)

-- memory ran out as the words were read, whatever they give
pub performs-unread : (order : Option CommandOrder) (files : Option Files) (b : ℕ) (units : AllUnits) → Performs order (ending.Stopped stop.Memory) [] files files b b units units
performs-unread order files b units = record {
  words = (λ x. inr refl, λ x. absurd (let none : ⊥ = cc in none));
  causes = record { count = omega arith; cause = tt };
  ran = tt;
  still = λ x. refl;
  leaves = leaves-all order files files refl;
  stops = no-stops order files;
  told = untold order [] files files (tapes_of units);
}

refused-told : (files : Option Files) (tapes : Tapes) → IfSome files (λ m. is_free_end ending.Words ≡ false → Comes None m tapes ending.Words [] files tapes)
refused-told None tapes = tt
refused-told (Some m) tapes = λ kept. record { image = []; found = Err 0; installed = tt; finds = tt; saves = refl; stage = (refl, refl, refl, refl) }

refused-stops : (files : Option Files) → IfSome files (λ m. (s : Stop) → ending.Words ≡ ending.Stopped s → is_free s ≡ false → StopsSo None m s)
refused-stops None = tt
refused-stops (Some m) = λ s is kept. absurd (let none : ⊥ = cc in none)

-- the words give no command
pub performs-refused : (order : Option CommandOrder) (files : Option Files) (b : ℕ) (units : AllUnits) → order ≡ None → Performs order ending.Words [] files files b b units units
performs-refused None files b units is = record {
  words = (λ x. inl refl, λ x. refl);
  causes = record { count = omega arith; cause = tt };
  ran = tt;
  still = λ x. refl;
  leaves = leaves-all None files files refl;
  stops = refused-stops files;
  told = refused-told files (tapes_of units);
}
performs-refused (Some order) files b units is = absurd (let none : ⊥ = cc in none)

-- ---- done

-- an ending that is no stop is one that no files stop
unstopped : (order : Option CommandOrder) (end : Ending) (before : Option Files) → ((s : Stop) → end ≡ ending.Stopped s → ⊥) → IfSome before (λ m. (s : Stop) → end ≡ ending.Stopped s → is_free s ≡ false → StopsSo order m s)
unstopped order end None apart = tt
unstopped order end (Some m) apart = λ s is kept. absurd (apart s is)

-- a command that has done its work
pub record IsDone (order : CommandOrder) (end : Ending) (lines : List ℕ) (before after : Option Files) (units units' : AllUnits) : Type 0 where
  pub unrefused : end ≡ ending.Words → ⊥
  pub apart : (s : Stop) → end ≡ ending.Stopped s → ⊥
  pub still : has_run end ≡ false → units' ≡ units
  pub leaves : IfSome before (λ m. Leaves (Some order) m after)
  pub told : IfSome before (λ m. is_free_end end ≡ false → Comes (Some order) m (tapes_of units) end lines after (tapes_of units'))

pub performs-done : (order : CommandOrder) (end : Ending) (lines : List ℕ) (before after : Option Files) (b a : ℕ) (units units' : AllUnits) → IsDone order end lines before after units units' → b ≤ a → EndingCause (engine_of (Some order)) end (is_some before) b a → RunCaused (engine_of (Some order)) end (is_some before) units units' → Performs (Some order) end lines before after b a units units'
performs-done order end lines before after b a units units' done count cause ran = record {
  words = (λ x. absurd (let none : ⊥ = cc in none), λ x. absurd (done.unrefused x));
  causes = record { count = count; cause = cause };
  ran = ran;
  still = done.still;
  leaves = done.leaves;
  stops = unstopped (Some order) end before done.apart;
  told = done.told;
}

checked-told : (names : SourceNames) (job : Job) (before after : Option Files) (tapes : Tapes) → after ≡ before → IfSome before (λ m. job_at names m ≡ Ok job) → let end = ending.Checked (length job.program.statements) (all_cells job.parameters.settings (length job.program.cells)) in IfSome before (λ m. is_free_end end ≡ false → Comes (Some (checks names)) m tapes end [] after tapes)
checked-told names job None after tapes same is = tt
checked-told names job (Some m) after tapes same is = λ kept. record { image = []; found = Err 0; installed = tt; finds = tt; saves = same; stage = rw is (refl, refl, same, refl) }

-- `check` of a program
pub performs-checked : (names : SourceNames) (job : Job) (statements cells : ℕ) (before after : Option Files) (b a : ℕ) (units : AllUnits) → statements ≡ length job.program.statements → cells ≡ all_cells job.parameters.settings (length job.program.cells) → after ≡ before → IfSome before (λ m. job_at names m ≡ Ok job) → b ≤ a → Performs (Some (checks names)) (ending.Checked statements cells) [] before after b a units units
performs-checked names job statements cells before after b a units counted numbered same is count =
    rw counted (rw numbered (performs-done (checks names) _ [] before after b a units units (record {
      unrefused = λ x. let none : ⊥ = cc in none;
      apart = λ s x. let none : ⊥ = cc in none;
      still = λ x. refl;
      leaves = leaves-all (Some (checks names)) before after same;
      told = checked-told names job before after (tapes_of units) same is;
    }) count tt tt))

-- the image of a program was saved
abbrev pub IsSaved : SourceNames → List ℕ → List ℕ → Option Files → Option Files → Type 0
IsSaved names name image before after = IfSome before (λ m. IsOkAnd (job_at names m) (λ job. IsInstalled image job.program job.parameters) × (after ≡ Some (insert m name image)))

comes-installed : (names : SourceNames) (name image : List ℕ) (m : Files) (after : Option Files) (tapes : Tapes) (r : Result Job Stop) → job_at names m ≡ r → IsOkAnd r (λ job. IsInstalled image job.program job.parameters) → after ≡ Some (insert m name image) → Comes (Some (installs names name)) m tapes (ending.Installed (length image)) [] after tapes
comes-installed names name image m after tapes (Err e) same installed saved = absurd installed
comes-installed names name image m after tapes (Ok job) same installed saved = record {
  image = image;
  found = Err 0;
  installed = rw same installed;
  finds = tt;
  saves = rw same saved;
  stage = rw same (refl, refl, saved, refl);
}

installed-told : (names : SourceNames) (name image : List ℕ) (before after : Option Files) (tapes : Tapes) → IsSaved names name image before after → IfSome before (λ m. is_free_end (ending.Installed (length image)) ≡ false → Comes (Some (installs names name)) m tapes (ending.Installed (length image)) [] after tapes)
installed-told names name image None after tapes saved = tt
installed-told names name image (Some m) after tapes saved = λ kept. comes-installed names name image m after tapes (job_at names m) refl saved.0 saved.1

-- `install` of a program
pub performs-installed : (names : SourceNames) (name image : List ℕ) (before after : Option Files) (b a : ℕ) (units : AllUnits) → IsSaved names name image before after → IfSome before (λ m. KeepsOthers names name m after) → b ≤ a → Performs (Some (installs names name)) (ending.Installed (length image)) [] before after b a units units
performs-installed names name image before after b a units saved leaves count =
    performs-done (installs names name) _ [] before after b a units units (record {
      unrefused = λ x. let none : ⊥ = cc in none;
      apart = λ s x. let none : ⊥ = cc in none;
      still = λ x. refl;
      leaves = leaves;
      told = installed-told names name image before after (tapes_of units) saved;
    }) count tt tt

-- ---- ran

pub ran-done : (order : CommandOrder) (end : CpuEnd) (lines : List ℕ) (before after : Option Files) (b a : ℕ) (units units' : AllUnits) → IfSome before (λ m. Leaves (Some order) m after) → IfSome before (λ m. is_free_end (ending.Ran end) ≡ false → Comes (Some order) m (tapes_of units) (ending.Ran end) lines after (tapes_of units')) → b ≤ a → RanSo (engine_of (Some order)) end (is_some before) units units' → Performs (Some order) (ending.Ran end) lines before after b a units units'
ran-done order end lines before after b a units units' leaves told count cause =
    performs-done order (ending.Ran end) lines before after b a units units' (record {
      unrefused = λ x. let none : ⊥ = cc in none;
      apart = λ s x. let none : ⊥ = cc in none;
      still = λ x. absurd (let none : ⊥ = cc in none);
      leaves = leaves;
      told = told;
    }) count tt cause

pub mapped-some : {A B : Type 0} (f : A → B) (o : Option A) (r : Option B) → r ≡ option_map f o → is_some o ≡ true → is_some r ≡ true
mapped-some f None r is h = let no : ⊥ = cc in absurd no
mapped-some f (Some x) r is h = rw is refl

pub same-some : {T : Type 0} (x y : T) → Some x ≡ Some y → x ≡ y
same-some x y e = cc

pub if-mapped : {T U : Type 0} (o : Option T) (f : T → U) (P : U → Type 0) → IfSome o (λ x. P (f x)) → IfSome (option_map f o) P
if-mapped None f P h = tt
if-mapped (Some x) f P h = h

-- a run's end, as an engine gives it, its lines and its tapes as a stage
pub ran-stage : {T : Type 0} (f : T → CpuEnd) (o : Option T) (end : CpuEnd) (lines lines' : List ℕ) (tapes tapes' : Tapes) (files : Files) (files' : Option Files) → (is_some o ≡ true → option_map f o ≡ Some end) → (is_some o ≡ true → lines' ≡ lines) → (is_some o ≡ true → tapes' ≡ tapes) → files' ≡ Some files
    → IfSome o (λ x. (ending.Ran end ≡ ending.Ran (f x)) × (lines' ≡ lines) × (files' ≡ Some files) × (tapes' ≡ tapes))
ran-stage f None end lines lines' tapes tapes' files files' ends tells same saved = tt
ran-stage f (Some x) end lines lines' tapes tapes' files files' ends tells same saved = (ap (λ e. ending.Ran e) (sym (same-some _ _ (ends refl))), tells refl, saved, same refl)

-- ---- `sim`

-- an end that came but for want of memory
abbrev Stood : End → Type 0 → Type 0
Stood end T = end ≢ ends.Memory → T

machine-end : (end : End) → IsMachineEnd (as_end end)
machine-end (ends.Exit code) = tt
machine-end (ends.Trap k) = tt
machine-end (ends.Undefined k) = tt
machine-end (ends.UnitFault k unit) = tt
machine-end ends.Budget = tt
machine-end ends.Memory = tt

machine-fault : (end : End) (units units' : AllUnits) → ((k unit : ℕ) → end ≡ ends.UnitFault k unit → RoseAt unit units units') → FaultCause (as_end end) units units'
machine-fault (ends.Exit code) units units' faults = tt
machine-fault (ends.Trap k) units units' faults = tt
machine-fault (ends.Undefined k) units units' faults = tt
machine-fault (ends.UnitFault k unit) units units' faults = faults k unit refl
machine-fault ends.Budget units units' faults = tt
machine-fault ends.Memory units units' faults = tt

stood : (end : End) → is_free_end (ending.Ran (as_end end)) ≡ false → end ≢ ends.Memory
stood (ends.Exit code) h = λ x. let none : ⊥ = cc in none
stood (ends.Trap k) h = λ x. let none : ⊥ = cc in none
stood (ends.Undefined k) h = λ x. let none : ⊥ = cc in none
stood (ends.UnitFault k unit) h = λ x. let none : ⊥ = cc in none
stood ends.Budget h = λ x. let none : ⊥ = cc in none
stood ends.Memory h = λ x. let none : ⊥ = cc in none

simulated-told : (names : SourceNames) (steps : ℕ) (job : Job) (end : End) (before after : Option Files) (tapes tapes' : Tapes) → after ≡ before → IfSome before (λ m. job_at names m ≡ Ok job)
    → Stood end (is_some (machine job.program job.parameters tapes steps).end ≡ true → (machine job.program job.parameters tapes steps).end ≡ Some end)
    → Stood end (is_some (machine job.program job.parameters tapes steps).end ≡ true → tapes' ≡ (machine job.program job.parameters tapes steps).tapes)
    → IfSome before (λ m. is_free_end (ending.Ran (as_end end)) ≡ false → Comes (Some (simulates names steps)) m tapes (ending.Ran (as_end end)) [] after tapes')
simulated-told names steps job end None after tapes tapes' same is came left = tt
simulated-told names steps job end (Some m) after tapes tapes' same is came left = λ kept. record {
  image = [];
  found = Err 0;
  installed = tt;
  finds = tt;
  saves = same;
  stage = rw is (if-mapped (machine job.program job.parameters tapes steps).end _ _ (ran-stage as_end _ (as_end end) [] [] _ tapes' m after (λ h. ap (option_map as_end) (came (stood end kept) h)) (λ h. refl) (left (stood end kept)) same));
}

-- `sim` of a program
pub performs-simulated : (names : SourceNames) (steps : ℕ) (job : Job) (end : End) (came : CpuEnd) (before after : Option Files) (b a : ℕ) (units units' : AllUnits) → came ≡ as_end end → after ≡ before → IfSome before (λ m. job_at names m ≡ Ok job)
    → Stood end (is_some (machine job.program job.parameters (tapes_of units) steps).end ≡ true → (machine job.program job.parameters (tapes_of units) steps).end ≡ Some end)
    → Stood end (is_some (machine job.program job.parameters (tapes_of units) steps).end ≡ true → tapes_of units' ≡ (machine job.program job.parameters (tapes_of units) steps).tapes)
    → ((k unit : ℕ) → end ≡ ends.UnitFault k unit → RoseAt unit units units')
    → b ≤ a → Performs (Some (simulates names steps)) (ending.Ran came) [] before after b a units units'
performs-simulated names steps job end came before after b a units units' so same is ends left faults count =
    rw so (ran-done (simulates names steps) (as_end end) [] before after b a units units' (leaves-all (Some (simulates names steps)) before after same) (simulated-told names steps job end before after (tapes_of units) (tapes_of units') same is ends left) count
    (record { ends = machine-end end; faults = machine-fault end units units' faults }))
