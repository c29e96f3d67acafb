-- Which codes an ending can have, and what the finishes and the notes make of them.
use Rattle.std.proofs.Common.{◌≡◌, ◌≢◌, ℕ, ◌≤◌, Bool, true, false, ◌||◌, ◌&&◌, ◌==◌, nat_le, nat_lt, if◌then◌else◌, ◌⊎◌, inl, inr, refl, sym, ap, ◌∙◌, arith}
use Rattle.std.proofs.lemmas.Bool.Decides.{nat_tests}
use Rattle.sil_base.specs.Causes.{Rose}
use Rattle.unit_io.specs.Tapes.{all_told}
use Rattle.unit_io.specs.Units.{AllUnits, tapes_of}
use Rattle.sil_base.specs.declared.sink.Put.{Put}
use Rattle.sil_base.specs.declared.sink.Put.TheVariants.{Ok, Failed, Memory}
use Rattle.rv_emulate.specs.declared.end.CpuEnd.{CpuEnd}
use Rattle.rv_emulate.specs.declared.end.CpuEnd.TheVariants as run
use Rattle.command_report.specs.declared.ending.Ending.{Ending}
use Rattle.command_report.specs.declared.ending.Ending.TheVariants as ending
use Rattle.command_report.specs.declared.ending.Stop.{Stop}
use Rattle.command_report.specs.declared.ending.Stop.TheVariants as stop
use Rattle.sil_cli.specs.Answer.{IsMissing, IsTooLong, IsParameterFault, AreFaults, IsImageRefusal, IsNoted, IsUnless, NeverAnswers}
use Rattle.command_report.specs.Endings.{run_status, stop_status, status_of, is_free, is_free_run, is_free_end, finish_status}
use Rattle.sil_cli.specs.Engines.{Engine, Idle, Reader, Machine, OwnImage, SavedImage, AnyImage, IsMachineEnd, IsProgramEnd, MayRefuse, RunCause}
use Rattle.sil_cli.specs.CommandFiles.{StopCause}
use Rattle.command_report.specs.Noted.{settled}
use Rattle.sil_cli.specs.Report.{EndingCause, RunCaused}

-- ---- the codes of endings

abbrev pub is_run_code : ℕ → Bool
is_run_code n = nat_le n 1 || (n == 6) || (n == 7) || (n == 8) || (n == 9) || (n == 11) || (n == 12)

abbrev pub is_stop_code : ℕ → Bool
is_stop_code n = (n == 3) || (n == 4) || (n == 5) || (n == 10) || (n == 12) || (n == 13) || (n == 15) || (n == 16)

exit-code : (b : Bool) → is_run_code (if b then 0 else 1) ≡ true
exit-code true = refl
exit-code false = refl

run-code : (e : CpuEnd) → is_run_code (run_status e) ≡ true
run-code (run.Exit code) = exit-code (code == 0)
run-code (run.Trap k) = refl
run-code (run.Undefined k) = refl
run-code run.Budget = refl
run-code (run.UnitFault k unit) = refl
run-code (run.Illegal pc) = refl
run-code (run.Fetch pc) = refl
run-code (run.Load pc) = refl
run-code (run.Store pc) = refl
run-code (run.BadCall pc) = refl
run-code run.Runaway = refl
run-code run.Memory = refl

stop-code : (s : Stop) → is_stop_code (stop_status s) ≡ true
stop-code (stop.Missing name) = refl
stop-code (stop.TooLong name) = refl
stop-code (stop.StoreFault name) = refl
stop-code (stop.Parameters fault) = refl
stop-code (stop.Faults faults) = refl
stop-code stop.NotBuilt = refl
stop-code (stop.ImageRefused part) = refl
stop-code stop.Memory = refl

both : (b : Bool) → b ≡ true → b ≡ false → ⊥
both b t f = let no : true ≡ false = sym t ∙ f in cc

run-apart : (n : ℕ) (e : CpuEnd) → is_run_code n ≡ false → run_status e ≡ n → ⊥
run-apart n e f is = both (is_run_code n) (ap is_run_code (sym is) ∙ run-code e) f

-- what was checked, installed or listed has the code of an exit
zero-apart : (n : ℕ) → is_run_code n ≡ false → 0 ≡ n → ⊥
zero-apart n f is = both (is_run_code n) (ap is_run_code (sym is) ∙ refl) f

stop-apart : (n : ℕ) (s : Stop) → is_stop_code n ≡ false → stop_status s ≡ n → ⊥
stop-apart n s f is = both (is_stop_code n) (ap is_stop_code (sym is) ∙ stop-code s) f

-- no ending has another code
pub code-apart : (n : ℕ) (end : Ending) → 2 ≢ n → is_run_code n ≡ false → is_stop_code n ≡ false → status_of end ≡ n → ⊥
code-apart n ending.Words two f g is = two is
code-apart n (ending.Stopped s) two f g is = stop-apart n s g is
code-apart n (ending.Checked k cells) two f g is = zero-apart n f is
code-apart n (ending.Installed bytes) two f g is = zero-apart n f is
code-apart n ending.Listed two f g is = zero-apart n f is
code-apart n (ending.Ran e) two f g is = run-apart n e f is

pub words-of : (end : Ending) → status_of end ≡ 2 → end ≡ ending.Words
words-of ending.Words is = refl
words-of (ending.Stopped s) is = absurd (stop-apart 2 s refl is)
words-of (ending.Checked k cells) is = absurd (zero-apart 2 refl is)
words-of (ending.Installed bytes) is = absurd (zero-apart 2 refl is)
words-of ending.Listed is = absurd (zero-apart 2 refl is)
words-of (ending.Ran e) is = absurd (run-apart 2 e refl is)

stop-store : (refuses : Type 0) (s : Stop) (b a : ℕ) → StopCause refuses s b a → stop_status s ≡ 10 → Rose b a
stop-store refuses (stop.Missing name) b a h is = absurd (omega arith)
stop-store refuses (stop.TooLong name) b a h is = absurd (omega arith)
stop-store refuses (stop.StoreFault name) b a h is = h
stop-store refuses (stop.Parameters fault) b a h is = absurd (omega arith)
stop-store refuses (stop.Faults faults) b a h is = absurd (omega arith)
stop-store refuses stop.NotBuilt b a h is = absurd (omega arith)
stop-store refuses (stop.ImageRefused part) b a h is = absurd (omega arith)
stop-store refuses stop.Memory b a h is = absurd (omega arith)

pub store-of : (engine : Engine) (end : Ending) (stored : Bool) (b a : ℕ) → EndingCause engine end stored b a → status_of end ≡ 10 → Rose b a
store-of engine ending.Words stored b a h is = absurd (omega arith)
store-of engine (ending.Stopped s) stored b a h is = stop-store (MayRefuse engine stored) s b a h is
store-of engine (ending.Checked k cells) stored b a h is = absurd (zero-apart 10 refl is)
store-of engine (ending.Installed bytes) stored b a h is = absurd (zero-apart 10 refl is)
store-of engine ending.Listed stored b a h is = absurd (zero-apart 10 refl is)
store-of engine (ending.Ran e) stored b a h is = absurd (run-apart 10 e refl is)

-- a code that neither words nor runs have is a stop's
pub stopped-of : (n : ℕ) (end : Ending) → 2 ≢ n → is_run_code n ≡ false → status_of end ≡ n → (s : Stop) × (end ≡ ending.Stopped s) × (stop_status s ≡ n)
stopped-of n ending.Words two f is = absurd (two is)
stopped-of n (ending.Stopped s) two f is = (s, refl, is)
stopped-of n (ending.Checked k cells) two f is = absurd (zero-apart n f is)
stopped-of n (ending.Installed bytes) two f is = absurd (zero-apart n f is)
stopped-of n ending.Listed two f is = absurd (zero-apart n f is)
stopped-of n (ending.Ran e) two f is = absurd (run-apart n e f is)

-- ---- codes of commands that take any image

exit-nine : (b : Bool) → ◌≡◌ {A = ℕ} (if b then 0 else 1) 9 → ⊥
exit-nine true is = omega arith
exit-nine false is = omega arith

machine-nine : (e : CpuEnd) → IsMachineEnd e → run_status e ≡ 9 → ⊥
machine-nine (run.Exit code) h is = exit-nine (code == 0) is
machine-nine (run.Trap k) h is = omega arith
machine-nine (run.Undefined k) h is = omega arith
machine-nine run.Budget h is = omega arith
machine-nine (run.UnitFault k unit) h is = omega arith
machine-nine (run.Illegal pc) h is = h
machine-nine (run.Fetch pc) h is = h
machine-nine (run.Load pc) h is = h
machine-nine (run.Store pc) h is = h
machine-nine (run.BadCall pc) h is = h
machine-nine run.Runaway h is = h
machine-nine run.Memory h is = omega arith

program-machine : (e : CpuEnd) → IsProgramEnd e → IsMachineEnd e
program-machine (run.Exit code) h = tt
program-machine (run.Trap k) h = tt
program-machine (run.Undefined k) h = tt
program-machine run.Budget h = tt
program-machine (run.UnitFault k unit) h = tt
program-machine (run.Illegal pc) h = h
program-machine (run.Fetch pc) h = h
program-machine (run.Load pc) h = h
program-machine (run.Store pc) h = h
program-machine (run.BadCall pc) h = h
program-machine run.Runaway h = h
program-machine run.Memory h = tt

-- an end that no program has may come
abbrev MayFault : Engine → Bool → Bool → Type 0
MayFault Idle stored told = ⊥
MayFault Reader stored told = ⊥
MayFault Machine stored told = ⊥
MayFault OwnImage stored told = told ≡ false
MayFault SavedImage stored told = (stored && told) ≡ false
MayFault AnyImage stored told = Unit {0}

unlike : (b : Bool) → (b ≡ true → ⊥) → b ≡ false
unlike true h = absurd (h refl)
unlike false h = refl

unlike-both : (a b : Bool) → (a ≡ true → b ≡ true → ⊥) → (a && b) ≡ false
unlike-both true b h = unlike b (h refl)
unlike-both false b h = refl

run-nine : (engine : Engine) (e : CpuEnd) (stored told : Bool) → RunCause engine e stored told → run_status e ≡ 9 → MayFault engine stored told
run-nine Idle e stored told h is = h
run-nine Reader e stored told h is = h
run-nine Machine e stored told h is = machine-nine e h is
run-nine OwnImage e stored told h is = unlike told (λ t. machine-nine e (program-machine e (h t)) is)
run-nine SavedImage e stored told h is = unlike-both stored told (λ s t. machine-nine e (program-machine e (h s t)) is)
run-nine AnyImage e stored told h is = tt

stop-five : (refuses : Type 0) (s : Stop) (b a : ℕ) → StopCause refuses s b a → stop_status s ≡ 5 → refuses
stop-five refuses (stop.Missing name) b a h is = absurd (omega arith)
stop-five refuses (stop.TooLong name) b a h is = absurd (omega arith)
stop-five refuses (stop.StoreFault name) b a h is = absurd (omega arith)
stop-five refuses (stop.Parameters fault) b a h is = absurd (omega arith)
stop-five refuses (stop.Faults faults) b a h is = absurd (omega arith)
stop-five refuses stop.NotBuilt b a h is = absurd (omega arith)
stop-five refuses (stop.ImageRefused part) b a h is = h
stop-five refuses stop.Memory b a h is = absurd (omega arith)

five-of : (engine : Engine) (end : Ending) (stored : Bool) (b a : ℕ) → EndingCause engine end stored b a → status_of end ≡ 5 → MayRefuse engine stored
five-of engine ending.Words stored b a h is = absurd (omega arith)
five-of engine (ending.Stopped s) stored b a h is = stop-five (MayRefuse engine stored) s b a h is
five-of engine (ending.Checked k cells) stored b a h is = absurd (zero-apart 5 refl is)
five-of engine (ending.Installed bytes) stored b a h is = absurd (zero-apart 5 refl is)
five-of engine ending.Listed stored b a h is = absurd (zero-apart 5 refl is)
five-of engine (ending.Ran e) stored b a h is = absurd (run-apart 5 e refl is)

nine-of : (engine : Engine) (end : Ending) (stored : Bool) (units units' : AllUnits) → RunCaused engine end stored units units' → status_of end ≡ 9 → MayFault engine stored (all_told (tapes_of units))
nine-of engine ending.Words stored units units' h is = absurd (omega arith)
nine-of engine (ending.Stopped s) stored units units' h is = absurd (stop-apart 9 s refl is)
nine-of engine (ending.Checked k cells) stored units units' h is = absurd (omega arith)
nine-of engine (ending.Installed bytes) stored units units' h is = absurd (omega arith)
nine-of engine ending.Listed stored units units' h is = absurd (omega arith)
nine-of engine (ending.Ran e) stored units units' h is = run-nine engine e stored (all_told (tapes_of units)) h.ends is

pub never-by : (engine : Engine) (end : Ending) (stored : Bool) (b a code : ℕ) (units units' : AllUnits) → EndingCause engine end stored b a → RunCaused engine end stored units units' → (code ≡ 5 → status_of end ≡ 5) → (code ≡ 9 → status_of end ≡ 9) → NeverAnswers engine code stored (all_told (tapes_of units))
never-by Idle end stored b a code units units' h ran five nine = (λ e. five-of Idle end stored b a h (five e), λ e. nine-of Idle end stored units units' ran (nine e))
never-by Reader end stored b a code units units' h ran five nine = λ e. nine-of Reader end stored units units' ran (nine e)
never-by Machine end stored b a code units units' h ran five nine = (λ e. five-of Machine end stored b a h (five e), λ e. nine-of Machine end stored units units' ran (nine e))
never-by OwnImage end stored b a code units units' h ran five nine = (λ e. five-of OwnImage end stored b a h (five e), λ e. nine-of OwnImage end stored units units' ran (nine e))
never-by SavedImage end stored b a code units units' h ran five nine = (λ e. five-of SavedImage end stored b a h (five e), λ e. nine-of SavedImage end stored units units' ran (nine e))
never-by AnyImage end stored b a code units units' h ran five nine = tt

-- ---- what stops tell

pub missing-of : (s : Stop) → stop_status s ≡ 13 → (is_free s ≡ false) × IsMissing s
missing-of (stop.Missing name) is = (refl, (name, refl))
missing-of (stop.TooLong name) is = absurd (omega arith)
missing-of (stop.StoreFault name) is = absurd (omega arith)
missing-of (stop.Parameters fault) is = absurd (omega arith)
missing-of (stop.Faults faults) is = absurd (omega arith)
missing-of stop.NotBuilt is = absurd (omega arith)
missing-of (stop.ImageRefused part) is = absurd (omega arith)
missing-of stop.Memory is = absurd (omega arith)

pub too-long-of : (s : Stop) → stop_status s ≡ 15 → (is_free s ≡ false) × IsTooLong s
too-long-of (stop.Missing name) is = absurd (omega arith)
too-long-of (stop.TooLong name) is = (refl, (name, refl))
too-long-of (stop.StoreFault name) is = absurd (omega arith)
too-long-of (stop.Parameters fault) is = absurd (omega arith)
too-long-of (stop.Faults faults) is = absurd (omega arith)
too-long-of stop.NotBuilt is = absurd (omega arith)
too-long-of (stop.ImageRefused part) is = absurd (omega arith)
too-long-of stop.Memory is = absurd (omega arith)

pub not-built-of : (s : Stop) → stop_status s ≡ 16 → (is_free s ≡ false) × (s ≡ stop.NotBuilt)
not-built-of (stop.Missing name) is = absurd (omega arith)
not-built-of (stop.TooLong name) is = absurd (omega arith)
not-built-of (stop.StoreFault name) is = absurd (omega arith)
not-built-of (stop.Parameters fault) is = absurd (omega arith)
not-built-of (stop.Faults faults) is = absurd (omega arith)
not-built-of stop.NotBuilt is = (refl, refl)
not-built-of (stop.ImageRefused part) is = absurd (omega arith)
not-built-of stop.Memory is = absurd (omega arith)

pub parameters-of : (s : Stop) → stop_status s ≡ 4 → (is_free s ≡ false) × IsParameterFault s
parameters-of (stop.Missing name) is = absurd (omega arith)
parameters-of (stop.TooLong name) is = absurd (omega arith)
parameters-of (stop.StoreFault name) is = absurd (omega arith)
parameters-of (stop.Parameters fault) is = (refl, (fault, refl))
parameters-of (stop.Faults faults) is = absurd (omega arith)
parameters-of stop.NotBuilt is = absurd (omega arith)
parameters-of (stop.ImageRefused part) is = absurd (omega arith)
parameters-of stop.Memory is = absurd (omega arith)

pub faults-of : (s : Stop) → stop_status s ≡ 3 → (is_free s ≡ false) × AreFaults s
faults-of (stop.Missing name) is = absurd (omega arith)
faults-of (stop.TooLong name) is = absurd (omega arith)
faults-of (stop.StoreFault name) is = absurd (omega arith)
faults-of (stop.Parameters fault) is = absurd (omega arith)
faults-of (stop.Faults faults) is = (refl, (faults, refl))
faults-of stop.NotBuilt is = absurd (omega arith)
faults-of (stop.ImageRefused part) is = absurd (omega arith)
faults-of stop.Memory is = absurd (omega arith)

pub refusal-of : (s : Stop) → stop_status s ≡ 5 → (is_free s ≡ false) × IsImageRefusal s
refusal-of (stop.Missing name) is = absurd (omega arith)
refusal-of (stop.TooLong name) is = absurd (omega arith)
refusal-of (stop.StoreFault name) is = absurd (omega arith)
refusal-of (stop.Parameters fault) is = absurd (omega arith)
refusal-of (stop.Faults faults) is = absurd (omega arith)
refusal-of stop.NotBuilt is = absurd (omega arith)
refusal-of (stop.ImageRefused part) is = (refl, (part, refl))
refusal-of stop.Memory is = absurd (omega arith)

free-stop : (s : Stop) → is_free s ≡ true → (stop_status s ≡ 10) ⊎ (stop_status s ≡ 12)
free-stop (stop.Missing name) is = absurd (let none : ⊥ = cc in none)
free-stop (stop.TooLong name) is = absurd (let none : ⊥ = cc in none)
free-stop (stop.StoreFault name) is = inl refl
free-stop (stop.Parameters fault) is = absurd (let none : ⊥ = cc in none)
free-stop (stop.Faults faults) is = absurd (let none : ⊥ = cc in none)
free-stop stop.NotBuilt is = absurd (let none : ⊥ = cc in none)
free-stop (stop.ImageRefused part) is = absurd (let none : ⊥ = cc in none)
free-stop stop.Memory is = inr refl

free-run : (e : CpuEnd) → is_free_run e ≡ true → run_status e ≡ 12
free-run (run.Exit code) is = absurd (let none : ⊥ = cc in none)
free-run (run.Trap k) is = absurd (let none : ⊥ = cc in none)
free-run (run.Undefined k) is = absurd (let none : ⊥ = cc in none)
free-run run.Budget is = absurd (let none : ⊥ = cc in none)
free-run (run.UnitFault k unit) is = absurd (let none : ⊥ = cc in none)
free-run (run.Illegal pc) is = absurd (let none : ⊥ = cc in none)
free-run (run.Fetch pc) is = absurd (let none : ⊥ = cc in none)
free-run (run.Load pc) is = absurd (let none : ⊥ = cc in none)
free-run (run.Store pc) is = absurd (let none : ⊥ = cc in none)
free-run (run.BadCall pc) is = absurd (let none : ⊥ = cc in none)
free-run run.Runaway is = absurd (let none : ⊥ = cc in none)
free-run run.Memory is = refl

-- an ending that a fault of the store or want of memory brings
pub free-of : (end : Ending) → is_free_end end ≡ true → (status_of end ≡ 10) ⊎ (status_of end ≡ 12)
free-of ending.Words is = absurd (let none : ⊥ = cc in none)
free-of (ending.Stopped s) is = free-stop s is
free-of (ending.Checked k cells) is = absurd (let none : ⊥ = cc in none)
free-of (ending.Installed bytes) is = absurd (let none : ⊥ = cc in none)
free-of ending.Listed is = absurd (let none : ⊥ = cc in none)
free-of (ending.Ran e) is = inr (free-run e is)

-- ---- the finishes and the notes

finish-kept : (s failed n : ℕ) → finish_status s failed ≡ n → n ≢ 11 → s ≡ n
finish-kept s failed n e apart = grind (arith, nat_tests)

failed-kept : (x n : ℕ) → settled Failed x ≡ n → n ≢ 14 → x ≡ n
failed-kept x n e apart = grind (arith, nat_tests)

-- a status that finishes and notes don't make is the ending's
pub status-kept : (put : Put) (s failed n : ℕ) → settled put (finish_status s failed) ≡ n → n ≢ 11 → n ≢ 12 → n ≢ 14 → s ≡ n
status-kept Ok s failed n e a b c = finish-kept s failed n e a
status-kept Failed s failed n e a b c = finish-kept s failed n (failed-kept (finish_status s failed) n e c) a
status-kept Memory s failed n e a b c = absurd (b (sym e))

-- a status of 14 shows a put that failed
pub put-failed : (put : Put) (s failed : ℕ) → (s ≡ 14 → ⊥) → settled put (finish_status s failed) ≡ 14 → put ≡ Failed
put-failed Ok s failed apart e = absurd (apart (finish-kept s failed 14 e (λ x. absurd (omega arith))))
put-failed Failed s failed apart e = refl
put-failed Memory s failed apart e = absurd (omega arith)

pick : (b : Bool) (x : ℕ) → IsNoted x (if b then 14 else x)
pick true x = inr (inr refl)
pick false x = inl refl

pub settled-noted : (put : Put) (x : ℕ) → IsNoted x (settled put x)
settled-noted Ok x = inl refl
settled-noted Failed x = pick (nat_lt x 10 || (x == 16)) x
settled-noted Memory x = inr (inl refl)

pub noted-unless : (x code : ℕ) → IsNoted x code → IsUnless x code
noted-unless x code (inl e) = inl e
noted-unless x code (inr (inl e)) = inr (inr (inl e))
noted-unless x code (inr (inr e)) = inr (inr (inr e))

either : (b : Bool) (x : ℕ) → (if b then x else x) ≡ x
either true x = refl
either false x = refl

settled-ten : (put : Put) (x : ℕ) → IsUnless x (settled put 10)
settled-ten Ok x = inr (inl refl)
settled-ten Failed x = inr (inl refl)
settled-ten Memory x = inr (inr (inl refl))

settled-twelve : (put : Put) → settled put 12 ≡ 12
settled-twelve Ok = refl
settled-twelve Failed = refl
settled-twelve Memory = refl

-- want of memory stays
pub twelve-stays : (put : Put) (s failed code : ℕ) → s ≡ 12 → code ≡ settled put (finish_status s failed) → code ≡ 12
twelve-stays put s failed code is e = e ∙ ap (λ s. settled put (finish_status s failed)) is ∙ ap (settled put) (either (failed == 0) 12) ∙ settled-twelve put

-- and so does a fault of the store, but for want of memory
pub free-unless : (put : Put) (s failed code x : ℕ) → (s ≡ 10) ⊎ (s ≡ 12) → code ≡ settled put (finish_status s failed) → IsUnless x code
free-unless put s failed code x (inl is) e =
    let same : code ≡ settled put 10 = e ∙ ap (λ s. settled put (finish_status s failed)) is ∙ ap (settled put) (either (failed == 0) 10) in
    rw same (settled-ten put x)
free-unless put s failed code x (inr is) e = inr (inr (inl (twelve-stays put s failed code is e)))
