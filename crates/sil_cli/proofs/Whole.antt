-- What an accepted command does, in whole.
use Rattle.std.specs.Prelude.{is_some}
use Rattle.std.proofs.Common.{◌≡◌, ℕ, ◌≤◌, Bool, true, false, nat_le, List, [], ◌++◌, length, Option, Some, IfSome, ◌⊎◌, inl, inr, refl, ap, ◌∙◌, arith, Ok, Err}
use Rattle.std.proofs.lemmas.Bool.Decides.{nat_tests}
use Rattle.std.specs.declared.result.Result.{Result}
use Rattle.std.specs.FinMap.{get, insert}
use Rattle.sil_base.specs.Causes.{Rose}
use Rattle.sil_base.specs.Files.{Files}
use Rattle.unit_io.specs.Tapes.{Tapes, all_told, finished_tapes, failed_finishes}
use Rattle.unit_io.specs.Units.{AllUnits, tapes_of}
use Rattle.sil_base.specs.declared.sink.Put.{Put}
use Rattle.sil_base.specs.declared.sink.Put.TheVariants as put
use Rattle.layout_params.specs.Parameters.{Parameters}
use Rattle.layout_params.specs.Entries.{values_of}
use Rattle.sil_cards.specs.Readings.{cards_of}
use Rattle.sil_model.specs.declared.end.End.{End}
use Rattle.sil_model.specs.declared.program.Program.{Program}
use Rattle.sil_runs.specs.Machine.{machine}
use Rattle.rv_operations.specs.Does.{as_end}
use Rattle.sil_install.specs.Installed.{IsInstalled}
use Rattle.command_report.specs.declared.ending.Ending.{Ending}
use Rattle.command_report.specs.declared.ending.Ending.TheVariants as ending
use Rattle.sil_cli.specs.Answer.{Answers, Finishes}
use Rattle.command_report.specs.Endings.{status_of, is_free_end, stop_by, has_run, finish_status}
use Rattle.sil_cli.specs.Headline.{HasJob, FinishesTapes, Reports, Ran, Does, Headline, SimulatedHeadline, LeavesUnits, DoesStage, DoesReport, Reported}
use Rattle.sil_cli.specs.Engines.{Engine, engine_of}
use Rattle.sil_base.specs.declared.limits.TheConstants.{MAX_FILE_BYTES}
use Rattle.sil_check.specs.CheckStops.{stop_by_load, stop_by_program}
use Rattle.sil_check.specs.Inputs.{Cards, loaded, on_result, and_then, source_by, inputs_of, unless_faulty, parameters_by, job_in, checked_of}
use Rattle.sil_base.specs.Loads.{of_file, stopping}
use Rattle.sil_cli.specs.CommandFiles.{names_of, job_at}
use Rattle.command_report.specs.Noted.{Noted, settled, text_of}
use Rattle.sil_cli.specs.Report.{Stage, stage_of, Comes, HasInstalled, EndingCause}
use Rattle.command_words.specs.CommandOrders.{SourceNames, CommandOrder, simulates, goes}
use Rattle.sil_cli.proofs.Codes.{free-of, store-of, twelve-stays}

-- ---- the files

is-within : (a b : ℕ) → a ≤ b → nat_le a b ≡ true
is-within a b h = grind (arith, nat_tests)

loads : (m : Files) (name bytes : List ℕ) → get m name ≡ Some bytes → length bytes ≤ MAX_FILE_BYTES → loaded m name MAX_FILE_BYTES ≡ Ok bytes
loads m name bytes is short =
    let test : nat_le (length bytes) MAX_FILE_BYTES ≡ true = is-within (length bytes) MAX_FILE_BYTES short in
    ap (λ o. stopping stop_by_load (of_file o name MAX_FILE_BYTES)) is ∙ (rw test refl)

then-ok : {T U E : Type 0} (r : Result T E) (x : T) (next : T → Result U E) → r ≡ Ok x → and_then r next ≡ next x
then-ok r x next e = rw e refl

inputs-of-files : (names : SourceNames) (m : Files) (program : Program) (parameters : Parameters) → (h : HasJob names m program parameters) → inputs_of (names_of names) m ≡ Ok (record { params = h.params; tables = h.tables; source = Cards h.cards })
inputs-of-files names m program parameters h =
    then-ok (loaded m names.params MAX_FILE_BYTES) h.params _ (loads m names.params h.params h.params_file h.params_size)
    ∙ then-ok (loaded m names.tables MAX_FILE_BYTES) h.tables _ (loads m names.tables h.tables h.tables_file h.tables_size)
    ∙ then-ok (source_by (cards_of m names.source)) (Cards h.cards) _ (ap source_by h.source)

job-of-inputs : (names : SourceNames) (m : Files) (program : Program) (parameters : Parameters) → (h : HasJob names m program parameters) → job_in (record { params = h.params; tables = h.tables; source = Cards h.cards }) ≡ Ok (record { program = program; parameters = parameters })
unfolding job_in
job-of-inputs names m program parameters h =
    then-ok (parameters_by h.params) (values_of h.params) _ (ap (λ o. unless_faulty o (values_of h.params)) h.faultless)
    ∙ ap (λ r. on_result r (λ program. Ok (record { program = program; parameters = values_of h.params })) (λ e. Err (stop_by_program e))) h.checked
    ∙ ap (λ p. Ok (record { program = program; parameters = p })) h.values

checked-files : (names : SourceNames) (m : Files) (program : Program) (parameters : Parameters) → HasJob names m program parameters → checked_of (names_of names) m ≡ Ok (record { program = program; parameters = parameters })
checked-files names m program parameters h =
    then-ok (inputs_of (names_of names) m) _ _ (inputs-of-files names m program parameters h) ∙ job-of-inputs names m program parameters h

pub job-of-files : (names : SourceNames) (m : Files) (program : Program) (parameters : Parameters) → HasJob names m program parameters → job_at names m ≡ Ok (record { program = program; parameters = parameters })
job-of-files names m program parameters h = ap (stopping stop_by) (checked-files names m program parameters h)

-- ---- the notes and the units

-- the units of a command as its stage leaves them
leaves-units : (ran : Bool) (between units' : AllUnits) (tapes : Tapes) (failed : ℕ) → tapes_of between ≡ tapes → Finishes ran between units' failed → LeavesUnits ran tapes units' failed
leaves-units true between units' tapes failed same finishes = λ told.
    let g = finishes.1 (rw same told) in
    record { tapes_after = g.1 ∙ ap finished_tapes same; failures = g.0 ∙ ap failed_finishes same }
leaves-units false between units' tapes failed same finishes = (ap tapes_of finishes.0 ∙ same, finishes.1)

-- the notes and the status of a command, unless memory ran out
reports : (p : Put) (lines : List ℕ) (end came : Ending) (failed code : ℕ) (text text' : Option (List ℕ)) (n n' : ℕ) → came ≡ end → Noted p (lines ++ text_of came failed) text text' n n' → code ≡ settled p (finish_status (status_of came) failed) → (code ≡ 12) ⊎ ((Rose n n' → ⊥) → Reports lines end failed code text text')
reports put.Ok lines end came failed code text text' n n' is noted status = inr (λ quiet. record {
  status = status ∙ ap (λ e. finish_status (status_of e) failed) is;
  noted = rw is at (noted.whole refl);
})
reports put.Failed lines end came failed code text text' n n' is noted status = inr (λ quiet. absurd (quiet (noted.failed refl)))
reports put.Memory lines end came failed code text text' n n' is noted status = inl status

free-twelve : (engine : Engine) (came : Ending) (stored : Bool) (b a : ℕ) → EndingCause engine came stored b a → (Rose b a → ⊥) → (status_of came ≡ 10) ⊎ (status_of came ≡ 12) → status_of came ≡ 12
free-twelve engine came stored b a cause calm (inl ten) = absurd (calm (store-of engine came stored b a cause ten))
free-twelve engine came stored b a cause calm (inr twelve) = twelve

-- ---- the stage

-- what a stage says of an ending, where there is a stage
at-stage : (o : Option Stage) (stage : Stage) (end : Ending) (lines : List ℕ) (files' : Option Files) (tapes' : Tapes) → o ≡ Some stage → IfSome o (λ s. (end ≡ s.ending) × (lines ≡ s.lines) × (files' ≡ Some s.files) × (tapes' ≡ s.tapes)) → (end ≡ stage.ending) × (lines ≡ stage.lines) × (files' ≡ Some stage.files) × (tapes' ≡ stage.tapes)
at-stage o stage end lines files' tapes' is says = rw is at says

module _ {words : Option CommandOrder} {code : ℕ} {files files' : Option Files} {b a : ℕ} {units units' : AllUnits} {text text' : Option (List ℕ)} {n n' : ℕ} (h : Answers words code files files' b a units units' text text' n n') where
  stage-done : (stage : Stage) → (h.ending ≡ stage.ending) × (h.lines ≡ stage.lines) × (files' ≡ Some stage.files) × (tapes_of h.between ≡ stage.tapes) → ((Rose n n' → ⊥) → Reports h.lines h.ending h.failed code text text') → DoesStage stage code files' units' text text' n n'
  stage-done stage says reported = record {
    files = says.2;
    failed = h.failed;
    units = leaves-units (has_run stage.ending) h.between units' stage.tapes h.failed says.3 (rw says.0 at h.finishes);
    reports = rw (says.0, says.1) at reported;
  }

  report-done : (m : Files) → Comes words m (tapes_of units) h.ending h.lines files' (tapes_of h.between) → (code ≡ 12) ⊎ ((Rose n n' → ⊥) → Reports h.lines h.ending h.failed code text text') → (code ≡ 12) ⊎ DoesReport words m (tapes_of units) code files' units' text text' n n'
  report-done m comes (inl twelve) = inl twelve
  report-done m comes (inr reported) = inr (record {
    image = comes.image;
    found = comes.found;
    installed = comes.installed;
    finds = comes.finds;
    does = λ stage is. stage-done stage (at-stage (stage_of words m (tapes_of units) comes.image comes.found) stage h.ending h.lines files' (tapes_of h.between) is comes.stage) reported;
  })

  by-free : (m : Files) (free : Bool) → is_free_end h.ending ≡ free → (Rose b a → ⊥) → (is_free_end h.ending ≡ false → Comes words m (tapes_of units) h.ending h.lines files' (tapes_of h.between)) → (code ≡ 12) ⊎ DoesReport words m (tapes_of units) code files' units' text text' n n'
  by-free m true e calm told =
      inl (twelve-stays h.put (status_of h.ending) h.failed code (free-twelve (engine_of words) h.ending (is_some files) b a h.performs.causes.cause calm (free-of h.ending e)) h.status)
  by-free m false e calm told =
      report-done m (told e) (reports h.put h.lines h.ending h.ending h.failed code text text' n n' refl h.noted h.status)

  -- any words: what was done is their stage, or memory ran out
  pub reported : Reported words code files files' b a units units' text text' n n'
  reported = λ m told calm. by-free m (is_free_end h.ending) refl calm (rw told at h.performs.told)

  went : (names : SourceNames) (name : List ℕ) (steps : ℕ) (m : Files) (program : Program) (parameters : Parameters) (end : End) → words ≡ Some (goes names name steps) → job_at names m ≡ Ok (record { program = program; parameters = parameters }) → (machine program parameters (tapes_of units) steps).end ≡ Some end → (code ≡ 12) ⊎ DoesReport words m (tapes_of units) code files' units' text text' n n' → (code ≡ 12) ⊎ Does name m program parameters end (machine program parameters (tapes_of units) steps).tapes code files' units' text text' n n'
  went names name steps m program parameters end accepted is ends (inl twelve) = inl twelve
  went names name steps m program parameters end accepted is ends (inr done) =
      let stage : Stage = record { ending = ending.Ran (as_end end); lines = []; files = insert m name done.image; tapes = (machine program parameters (tapes_of units) steps).tapes } in
      let so : stage_of words m (tapes_of units) done.image done.found ≡ Some stage = rw (accepted, is, ends) refl in
      let does = done.does stage so in
      let installed : HasInstalled (Some (goes names name steps)) m done.image = rw accepted at done.installed in
      inr (record {
        image = done.image;
        installed = rw is at installed;
        files = does.files;
        run = record { failed = does.failed; finishes = does.units; reports = does.reports };
      })

  pub headline : Headline words code files files' b a units units' text text' n n'
  headline = λ names name steps m program parameters end accepted told has calm ends.
      went names name steps m program parameters end accepted (job-of-files names m program parameters has) ends (reported m told calm)

  simulated-by : (names : SourceNames) (steps : ℕ) (m : Files) (program : Program) (parameters : Parameters) (end : End) → words ≡ Some (simulates names steps) → job_at names m ≡ Ok (record { program = program; parameters = parameters }) → (machine program parameters (tapes_of units) steps).end ≡ Some end → (code ≡ 12) ⊎ DoesReport words m (tapes_of units) code files' units' text text' n n' → (code ≡ 12) ⊎ ((files' ≡ Some m) × Ran end (machine program parameters (tapes_of units) steps).tapes code units' text text' n n')
  simulated-by names steps m program parameters end accepted is ends (inl twelve) = inl twelve
  simulated-by names steps m program parameters end accepted is ends (inr done) =
      let stage : Stage = record { ending = ending.Ran (as_end end); lines = []; files = m; tapes = (machine program parameters (tapes_of units) steps).tapes } in
      let so : stage_of words m (tapes_of units) done.image done.found ≡ Some stage = rw (accepted, is, ends) refl in
      let does = done.does stage so in
      inr (does.files, record { failed = does.failed; finishes = does.units; reports = does.reports })

  pub simulated : SimulatedHeadline words code files files' b a units units' text text' n n'
  simulated = λ names steps m program parameters end accepted told has calm ends.
      simulated-by names steps m program parameters end accepted (job-of-files names m program parameters has) ends (reported m told calm)
