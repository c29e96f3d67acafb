-- What a status shows.
use Rattle.std.proofs.Common.{◌≡◌, ◌≢◌, ℕ, Bool, true, false, List, Option, None, Some, IfSome, IfOk, Ok, Err, refl, sym, ap, ◌∙◌, ◌⊎◌, inl, inr, arith}
use Rattle.std.specs.Prelude.{is_some}
use Rattle.sil_base.specs.Causes.{Rose}
use Rattle.sil_base.specs.Files.{Files}
use Rattle.unit_io.specs.Tapes.{Tapes}
use Rattle.unit_io.specs.Units.{AllUnits, tapes_of}
use Rattle.command_report.specs.declared.ending.Ending.{Ending}
use Rattle.command_report.specs.declared.ending.Ending.TheVariants as ending
use Rattle.command_report.specs.declared.ending.Stop.{Stop}
use Rattle.command_report.specs.declared.ending.Stop.TheVariants as stop
use Rattle.sil_cli.specs.Answer.{Answers, Finishes, StopsSo, IsStopped, IsMissing, IsTooLong, IsParameterFault, AreFaults, IsImageRefusal, IsNoted, IsUnless, IsNever, StopsRun}
use Rattle.command_report.specs.Endings.{stop_status, status_of, is_free, is_free_end, has_run, finish_status}
use Rattle.command_report.specs.Noted.{settled}
use Rattle.sil_cli.specs.Report.{Comes, stage_of, run_found, trace_found, list_found, HasFound, IsFound}
use Rattle.sil_cli.specs.Engines.{engine_of}
use Rattle.sil_cli.specs.CommandFiles.{image_at}
use Rattle.sil_check.specs.Inputs.{on_result}
use Rattle.sil_cli.specs.Report as report
use Rattle.std.specs.declared.result.Result.{Result}
use Rattle.image_file.specs.Image.{Image}
use Rattle.image_file.specs.ImageGrammar.{IsFirstWrong}
use Rattle.image_file.proofs.Files.{no_image, one_part}
use Rattle.command_words.specs.CommandOrders.{CommandOrder, checks, installs, runs, traces, simulates, lists, goes, demos}
use Rattle.sil_cli.proofs.Codes.{code-apart, words-of, store-of, stopped-of, missing-of, too-long-of, parameters-of, faults-of, refusal-of, not-built-of, free-of, never-by, status-kept, put-failed, settled-noted, noted-unless, twelve-stays, free-unless}

-- the finishes of a command that didn't run
unfinished : (end : Ending) (between units' : AllUnits) (failed : ℕ) → has_run end ≡ false → Finishes (has_run end) between units' failed → failed ≡ 0
unfinished end between units' failed e finishes = (rw e at finishes).1

-- a stop that the files bring
told-stop : (order : Option CommandOrder) (files : Option Files) (end : Ending) (s : Stop) (P : Stop → Type 0) → IfSome files (λ m. (stop : Stop) → end ≡ ending.Stopped stop → is_free stop ≡ false → StopsSo order m stop) → end ≡ ending.Stopped s → is_free s ≡ false → P s → IsStopped order files P
told-stop order None end s P stops is kept holds = tt
told-stop order (Some m) end s P stops is kept holds = (s, stops s is kept, holds)

-- what a stage says of an ending
abbrev Says : Ending → List ℕ → Option Files → Tapes → Option report.Stage → Type 0
Says end lines files' tapes' stage = IfSome stage (λ t. (end ≡ t.ending) × (lines ≡ t.lines) × (files' ≡ Some t.files) × (tapes' ≡ t.tapes))

-- what a command that takes an image file does with what it finds: no image, and it is refused
abbrev Refuses : (Result Image ℕ → Option report.Stage) → Files → Tapes → Type 0
Refuses go m tapes = (part : ℕ) → go (Err part) ≡ report.stopped m tapes (stop.ImageRefused part)

-- bytes that are no image stop it
refused-stage : (go : Result Image ℕ → Option report.Stage) (found : Result Image ℕ) (bytes : List ℕ) (part : ℕ) (m : Files) (tapes tapes' : Tapes) (end : Ending) (lines : List ℕ) (files' : Option Files) → Refuses go m tapes → IsFirstWrong part bytes → IsFound found bytes → Says end lines files' tapes' (go found) → end ≡ ending.Stopped (stop.ImageRefused part)
refused-stage go (Ok image) bytes part m tapes tapes' end lines files' refuses wrong finds stage = absurd (no_image part image bytes wrong finds)
refused-stage go (Err k) bytes part m tapes tapes' end lines files' refuses wrong finds stage = (rw (refuses k) at stage).0 ∙ ap (λ p. ending.Stopped (stop.ImageRefused p)) (one_part k part bytes finds wrong)

image-stage : (go : Result Image ℕ → Option report.Stage) (loaded : Result (List ℕ) Stop) (found : Result Image ℕ) (m : Files) (tapes tapes' : Tapes) (end : Ending) (lines : List ℕ) (files' : Option Files) (s : Stop) → Refuses go m tapes → StopsRun loaded s → IfOk loaded (IsFound found) → Says end lines files' tapes' (on_result loaded (λ bytes. go found) (report.stopped m tapes)) → end ≡ ending.Stopped s
image-stage go (Err e) found m tapes tapes' end lines files' s refuses stops finds stage = stage.0 ∙ ap (λ x. ending.Stopped x) (sym stops)
image-stage go (Ok bytes) found m tapes tapes' end lines files' s refuses stops finds stage = refused-stage go found bytes stops.0 m tapes tapes' end lines files' refuses stops.2 finds stage ∙ ap (λ x. ending.Stopped x) (sym stops.1)

-- a command that its files stop ends so
stage-stop : (order : Option CommandOrder) (m : Files) (tapes tapes' : Tapes) (end : Ending) (lines : List ℕ) (files' : Option Files) (image : List ℕ) (found : Result Image ℕ) (s : Stop) → StopsSo order m s → HasFound order m found → Says end lines files' tapes' (stage_of order m tapes image found) → end ≡ ending.Stopped s
stage-stop None m tapes tapes' end lines files' image found s stops finds stage = absurd stops
stage-stop (Some (checks names)) m tapes tapes' end lines files' image found s stops finds stage = (rw stops at stage).0
stage-stop (Some (installs names name)) m tapes tapes' end lines files' image found s stops finds stage = (rw stops at stage).0
stage-stop (Some (runs name n)) m tapes tapes' end lines files' image found s stops finds stage = image-stage (λ f. run_found f n m tapes) (image_at name m) found m tapes tapes' end lines files' s (λ part. refl) stops finds stage
stage-stop (Some (traces name n)) m tapes tapes' end lines files' image found s stops finds stage = image-stage (λ f. trace_found f n m tapes) (image_at name m) found m tapes tapes' end lines files' s (λ part. refl) stops finds stage
stage-stop (Some (simulates names n)) m tapes tapes' end lines files' image found s stops finds stage = (rw stops at stage).0
stage-stop (Some (lists name)) m tapes tapes' end lines files' image found s stops finds stage = image-stage (λ f. list_found f m tapes) (image_at name m) found m tapes tapes' end lines files' s (λ part. refl) stops finds stage
stage-stop (Some (goes names name n)) m tapes tapes' end lines files' image found s stops finds stage = (rw stops at stage).0
stage-stop (Some (demos cards seed)) m tapes tapes' end lines files' image found s stops finds stage = (rw stops at stage).0

module _ {order : Option CommandOrder} {code : ℕ} {files files' : Option Files} {b a : ℕ} {units units' : AllUnits} {text text' : Option (List ℕ)} {n n' : ℕ} (h : Answers order code files files' b a units units' text text' n n') where
  kept : (k : ℕ) → code ≡ k → k ≢ 11 → k ≢ 12 → k ≢ 14 → status_of h.ending ≡ k
  kept k e x y z = status-kept h.put (status_of h.ending) h.failed k (sym h.status ∙ e) x y z

  -- 2: the words give no order
  pub status-words : code ≡ 2 → order ≡ None
  status-words e =
      h.performs.words.1 (words-of h.ending (kept 2 e (λ x. absurd (omega arith)) (λ x. absurd (omega arith)) (λ x. absurd (omega arith))))

  ended-so : (end : Ending) → h.ending ≡ end → has_run end ≡ false → code ≡ settled h.put (status_of end)
  ended-so end is still =
      let none : h.failed ≡ 0 = unfinished h.ending h.between units' h.failed (ap has_run is ∙ still) h.finishes in
      h.status ∙ ap (λ s. settled h.put (finish_status s h.failed)) (ap status_of is) ∙ ap (λ f. settled h.put (finish_status (status_of end) f)) none

  refused-by : (h.ending ≡ ending.Words) ⊎ (h.ending ≡ ending.Stopped stop.Memory) → IsNoted 2 code
  refused-by (inl is) = rw (ended-so ending.Words is refl) (settled-noted h.put 2)
  refused-by (inr is) = inr (inl (twelve-stays h.put (status_of h.ending) h.failed code (ap status_of is) h.status))

  -- and then 2 comes, or what stands in its place
  pub status-refused : order ≡ None → IsNoted 2 code
  status-refused e = refused-by (h.performs.words.0 e)

  -- 10: the store's count rose
  pub status-store : code ≡ 10 → Rose b a
  status-store e = store-of (engine_of order) h.ending (is_some files) b a h.performs.causes.cause (kept 10 e (λ x. absurd (omega arith)) (λ x. absurd (omega arith)) (λ x. absurd (omega arith)))

  -- 13: the first file that can't be had isn't there
  pub status-missing : code ≡ 13 → IsStopped order files IsMissing
  status-missing e =
      let s = stopped-of 13 h.ending (λ x. absurd (omega arith)) refl (kept 13 e (λ x. absurd (omega arith)) (λ x. absurd (omega arith)) (λ x. absurd (omega arith))) in
      let is = missing-of s.0 s.2 in
      told-stop order files h.ending s.0 IsMissing h.performs.stops s.1 is.0 is.1

  -- 15: it is too long
  pub status-too-long : code ≡ 15 → IsStopped order files IsTooLong
  status-too-long e =
      let s = stopped-of 15 h.ending (λ x. absurd (omega arith)) refl (kept 15 e (λ x. absurd (omega arith)) (λ x. absurd (omega arith)) (λ x. absurd (omega arith))) in
      let is = too-long-of s.0 s.2 in
      told-stop order files h.ending s.0 IsTooLong h.performs.stops s.1 is.0 is.1

  -- 4: the parameters of the files aren't legal
  pub status-parameters : code ≡ 4 → IsStopped order files IsParameterFault
  status-parameters e =
      let s = stopped-of 4 h.ending (λ x. absurd (omega arith)) refl (kept 4 e (λ x. absurd (omega arith)) (λ x. absurd (omega arith)) (λ x. absurd (omega arith))) in
      let is = parameters-of s.0 s.2 in
      told-stop order files h.ending s.0 IsParameterFault h.performs.stops s.1 is.0 is.1

  -- 3: lines of the source break rules
  pub status-faults : code ≡ 3 → IsStopped order files AreFaults
  status-faults e =
      let s = stopped-of 3 h.ending (λ x. absurd (omega arith)) refl (kept 3 e (λ x. absurd (omega arith)) (λ x. absurd (omega arith)) (λ x. absurd (omega arith))) in
      let is = faults-of s.0 s.2 in
      told-stop order files h.ending s.0 AreFaults h.performs.stops s.1 is.0 is.1

  -- 5: the bytes of the file are no image
  pub status-image : code ≡ 5 → IsStopped order files IsImageRefusal
  status-image e =
      let s = stopped-of 5 h.ending (λ x. absurd (omega arith)) refl (kept 5 e (λ x. absurd (omega arith)) (λ x. absurd (omega arith)) (λ x. absurd (omega arith))) in
      let is = refusal-of s.0 s.2 in
      told-stop order files h.ending s.0 IsImageRefusal h.performs.stops s.1 is.0 is.1

  -- 16: the files are there, and give no program
  pub status-not-built : code ≡ 16 → IsStopped order files (λ s. s ≡ stop.NotBuilt)
  status-not-built e =
      let s = stopped-of 16 h.ending (λ x. absurd (omega arith)) refl (kept 16 e (λ x. absurd (omega arith)) (λ x. absurd (omega arith)) (λ x. absurd (omega arith))) in
      let is = not-built-of s.0 s.2 in
      told-stop order files h.ending s.0 (λ s. s ≡ stop.NotBuilt) h.performs.stops s.1 is.0 is.1

  stop-status : (s : Stop) → h.ending ≡ ending.Stopped s → IsUnless (stop_status s) code
  stop-status s is = noted-unless (stop_status s) code (rw (ended-so (ending.Stopped s) is refl) (settled-noted h.put (stop_status s)))

  stops-by : (m : Files) (s : Stop) (free : Bool) → is_free_end h.ending ≡ free → (is_free_end h.ending ≡ false → Comes order m (tapes_of units) h.ending h.lines files' (tapes_of h.between)) → StopsSo order m s → IsUnless (stop_status s) code
  stops-by m s true e told stops = free-unless h.put (status_of h.ending) h.failed code (stop_status s) (free-of h.ending e) h.status
  stops-by m s false e told stops =
      let come = told e in
      stop-status s (stage-stop order m _ _ h.ending h.lines files' come.image come.found s stops come.finds come.stage)

  -- what the files stop with is what comes, or what stands in its place
  pub status-stops : (m : Files) → files ≡ Some m → (s : Stop) → StopsSo order m s → IsUnless (stop_status s) code
  status-stops m is s stops = stops-by m s (is_free_end h.ending) refl (rw is at h.performs.told) stops

  -- 14: the sink's count rose
  pub status-notes : code ≡ 14 → Rose n n'
  status-notes e =
      h.noted.failed (put-failed h.put (status_of h.ending) h.failed (code-apart 14 h.ending (λ x. absurd (omega arith)) refl refl) (sym h.status ∙ e))

  -- 5 and 9 come of a command alone that takes any image, or over a store or units that tell nothing
  pub status-never : IsNever order code files units
  status-never = never-by (engine_of order) h.ending (is_some files) b a code units h.between h.performs.causes.cause h.performs.ran (λ e. kept 5 e (λ x. absurd (omega arith)) (λ x. absurd (omega arith)) (λ x. absurd (omega arith))) (λ e. kept 9 e (λ x. absurd (omega arith)) (λ x. absurd (omega arith)) (λ x. absurd (omega arith)))
