-- Turns of a run, and runs one after another.
use Rattle.std.proofs.Common.{◌≡◌, ◌≢◌, ℕ, zero, suc, ◌+◌, ◌-◌, ◌<◌, ◌≤◌, inl, inr, true, Option, Some, None, refl, sym, ap, subst, ◌∙◌, arith}
use Rattle.unit_io.specs.Units.{AllUnits}
use Rattle.rv_emulate.specs.declared.code.Code.{Code}
use Rattle.rv_emulate.specs.declared.end.CpuEnd.{CpuEnd}
use Rattle.rv_emulate.specs.declared.end.CpuEnd.TheVariants.{UnitFault, Memory}
use Rattle.rv_emulate.specs.declared.end.CpuStep.{CpuStep}
use Rattle.rv_emulate.specs.declared.end.CpuStep.TheVariants as steps
use Rattle.rv_emulate.specs.EmulatorStates.{State, Outcome, On, Ended}
use Rattle.rv_emulate.specs.EmulatorRuns.{on_state}
use Rattle.rv_emulate.specs.Cpus.{is_told}
use Rattle.rv_emulate.specs.CpuView.{code_step, code_run, Steps, Runs}
use Rattle.rv_emulate.specs.CpuTurns.{KeepsUnits, FailedOrRose, Cuts, IsStep, IsRun}
use Rattle.rv_emulate.proofs.UnitLaws.{units_same, units_then, rose_kept, rose_later}

-- what an answer says of the run
abbrev pub end_by : CpuStep → Option CpuEnd
end_by steps.Next = None
end_by (steps.Ended d) = Some d

-- ---- runs of the definition

-- j steps, and then k
run_twice : (code : Code) (j k : ℕ) (s : State) → code_run code (j + k) s ≡ on_state (code_run code j s) (code_run code k)
unfolding code_run
run_twice code zero k s = let z : 0 + k ≡ k = omega arith in rw z refl
run_twice code (suc j) k s =
    let z : suc j + k ≡ suc (j + k) = omega arith in
    rw z (on (λ t. run_twice code j k t) (code_step code s))
  where
    on : ((t : State) → code_run code (j + k) t ≡ on_state (code_run code j t) (code_run code k)) → (o : Outcome) → on_state o (code_run code (j + k)) ≡ on_state (on_state o (code_run code j)) (code_run code k)
    on again (On t) = again t
    on again (Ended e tapes) = refl

on_again : (o : Outcome) → on_state o On ≡ o
on_again (On s) = refl
on_again (Ended e tapes) = refl

one_step : (code : Code) (s : State) → code_run code 1 s ≡ code_step code s
unfolding code_run
one_step code s = on_again (code_step code s)

told_first : (o : Outcome) (go : State → Outcome) → is_told (on_state o go) ≡ true → is_told o ≡ true
told_first (On s) go told = refl
told_first (Ended e tapes) go told = told

went : (o : Outcome) (t : State) → Runs o None t → o ≡ On t
went (On s) t h = ap On h
went (Ended e tapes) t h = absurd h

stopped : (o : Outcome) (d : CpuEnd) (t : State) (go : State → Outcome) → Runs o (Some d) t → on_state o go ≡ o
stopped (On s) d t go h = absurd h
stopped (Ended e tapes) d t go h = refl

none_is_no_end : (d : CpuEnd) → None ≢ Some d
none_is_no_end d e = cc

-- ---- turns and runs

-- nothing was run
pub no_run : (code : Code) (s : State) (us : AllUnits) → IsRun code 0 None s s us us
unfolding code_run
no_run code s us = record {
  makes = λ memory told. refl;
  units = units_same us;
  failed = λ n e. inl e;
  faults = λ k n e. absurd (none_is_no_end (UnitFault k n) e);
  cut = λ e. absurd (none_is_no_end Memory e);
}

step_ran : (o : Outcome) (step : CpuStep) (s t : State) → Steps o step s t → Runs o (end_by step) t
step_ran (On v) steps.Next s t h = h
step_ran (On v) (steps.Ended d) s t h = absurd h
step_ran (Ended e tapes) steps.Next s t h = absurd h
step_ran (Ended e tapes) (steps.Ended d) s t h = (h.0, h.1)

step_end : (step : CpuStep) (d : CpuEnd) → step ≡ steps.Ended d → end_by step ≡ Some d
step_end step d e = ap end_by e

end_step : (step : CpuStep) (d : CpuEnd) → end_by step ≡ Some d → step ≡ steps.Ended d
end_step steps.Next d e = absurd (none_is_no_end d e)
end_step (steps.Ended c) d e = let same : c ≡ d = cc in ap steps.Ended same

no_steps : (code : Code) (s : State) → code_run code 0 s ≡ On s
unfolding code_run
no_steps code s = refl

-- a turn is a run of one step
turn_run : (code : Code) (step : CpuStep) (s t : State) (us vs : AllUnits) → IsStep code step s t us vs → IsRun code 1 (end_by step) s t us vs
turn_run code step s t us vs h = record {
  makes = λ memory told.
      let P : Outcome → Type 0 = λ o. Runs o (end_by step) t in
      subst P (sym (one_step code s)) (step_ran (code_step code s) step s t (h.turn.makes (λ e. memory (step_end step Memory e)) (ap is_told (sym (one_step code s)) ∙ told)));
  units = h.turn.units;
  failed = h.turn.failed;
  faults = λ k n e. inl (h.turn.faults k n (end_step step (UnitFault k n) e));
  cut = λ e. (
    0,
    omega arith,
    λ told. (
      s,
      record {
        reached = no_steps code s;
        at = h.at (end_step step Memory e);
        cut = h.turn.cut (end_step step Memory e);
      },
    ),
  );
}

-- a unit that failed, or whose count rose, by the end of the second of two runs
fails_then : (n : ℕ) (s t : State) (us vs ws : AllUnits) → KeepsUnits us vs → KeepsUnits vs ws → (t.failed ≡ Some n → FailedOrRose n s us vs) → FailedOrRose n t vs ws → FailedOrRose n s us ws
fails_then n s t us vs ws first next before (inr rose) = inr (rose_later n us vs ws first rose)
fails_then n s t us vs ws first next before (inl e) = on (before e)
  where
    on : FailedOrRose n s us vs → FailedOrRose n s us ws
    on (inl f) = inl f
    on (inr rose) = inr (rose_kept n us vs ws rose next)

-- a run of j steps that came to t, where the units tell so far
reaches : (code : Code) (j k : ℕ) (s t : State) (us vs : AllUnits) → IsRun code j None s t us vs → is_told (code_run code (j + k) s) ≡ true → code_run code (j + k) s ≡ code_run code k t
reaches code j k s t us vs h told =
    let both = run_twice code j k s in
    let told_j = told_first (code_run code j s) (code_run code k) (ap is_told (sym both) ∙ told) in
    let came = went (code_run code j s) t (h.makes (none_is_no_end Memory) told_j) in
    both ∙ ap (λ o. on_state o (code_run code k)) came

-- a run that is cut off in its second part
cuts_then : (code : Code) (j k : ℕ) (s t u : State) (us vs : AllUnits) → IsRun code j None s t us vs → Cuts code k t u.tapes → Cuts code (j + k) s u.tapes
cuts_then code j k s t u us vs first (i, lt, at) = (
  j + i,
  omega (arith, lt),
  λ told.
      let same = reaches code j i s t us vs first told in
      let there = at (ap is_told (sym same) ∙ told) in
      (there.0, record { reached = same ∙ there.1.reached; at = there.1.at; cut = there.1.cut }),
)

-- a run, and a run from where it came to
pub then_runs : (code : Code) (j k : ℕ) (end : Option CpuEnd) (s t u : State) (us vs ws : AllUnits) → IsRun code j None s t us vs → IsRun code k end t u vs ws → IsRun code (j + k) end s u us ws
then_runs code j k end s t u us vs ws first next = record {
  makes = λ memory told.
      let same = reaches code j k s t us vs first told in
      let P : Outcome → Type 0 = λ o. Runs o end u in
      subst P (sym same) (next.makes memory (ap is_told (sym same) ∙ told));
  units = units_then us vs ws first.units next.units;
  failed = λ n e. fails_then n s t us vs ws first.units next.units (first.failed n) (next.failed n e);
  faults = λ k n e. fails_then n s t us vs ws first.units next.units (first.failed n) (next.faults k n e);
  cut = λ e. cuts_then code j k s t u us vs first (next.cut e);
}

cuts_longer : (code : Code) (j k : ℕ) (s t : State) → Cuts code j s t.tapes → Cuts code (j + k) s t.tapes
cuts_longer code j k s t (i, lt, at) = (i, omega (arith, lt), at)

-- a run that has ended is the same with more steps
longer : (code : Code) (j k : ℕ) (d : CpuEnd) (s t : State) (us vs : AllUnits) → IsRun code j (Some d) s t us vs → IsRun code (j + k) (Some d) s t us vs
longer code j k d s t us vs h = record {
  makes = λ memory told.
      let both = run_twice code j k s in
      let told_j = told_first (code_run code j s) (code_run code k) (ap is_told (sym both) ∙ told) in
      let ran = h.makes memory told_j in
      let same : code_run code j s ≡ code_run code (j + k) s = sym (stopped (code_run code j s) d t (code_run code k) ran) ∙ sym both in
      let P : Outcome → Type 0 = λ o. Runs o (Some d) t in
      subst P same ran;
  units = h.units;
  failed = h.failed;
  faults = h.faults;
  cut = λ e. cuts_longer code j k s t (h.cut e);
}

-- ---- by turns

pub one_turn : (code : Code) (turn : ℕ) (step : CpuStep) (s t u : State) (us vs ws : AllUnits) → step ≡ steps.Next → IsRun code turn None s t us vs → IsStep code step t u vs ws → IsRun code (turn + 1) None s u us ws
one_turn code turn step s t u us vs ws is first next =
    let P : CpuStep → Type 0 = λ x. IsStep code x t u vs ws in
    then_runs code turn 1 None s t u us vs ws first (turn_run code steps.Next t u vs ws (subst P is next))

-- a turn that ends
pub last_turn : (code : Code) (n turn : ℕ) (step : CpuStep) (d : CpuEnd) (s t u : State) (us vs ws : AllUnits) → turn < n → step ≡ steps.Ended d → IsRun code turn None s t us vs → IsStep code step t u vs ws → IsRun code n (Some d) s u us ws
last_turn code n turn step d s t u us vs ws lt is first next =
    let P : CpuStep → Type 0 = λ x. IsStep code x t u vs ws in
    let Q : ℕ → Type 0 = λ m. IsRun code m (Some d) s u us ws in
    let all : turn + 1 + (n - (turn + 1)) ≡ n = omega arith in
    subst Q all (longer code (turn + 1) (n - (turn + 1)) d s u us ws (then_runs code turn 1 (Some d) s t u us vs ws first (turn_run code (steps.Ended d) t u vs ws (subst P is next))))

-- no turn is left
pub no_turn : (code : Code) (n turn : ℕ) (s t : State) (us vs : AllUnits) → turn ≡ n → IsRun code turn None s t us vs → IsRun code n None s t us vs
no_turn code n turn s t us vs is h = let P : ℕ → Type 0 = λ m. IsRun code m None s t us vs in subst P is h

-- ---- by rounds

-- a round more, after so many steps
pub one_round : (code : Code) (done size all : ℕ) (end : Option CpuEnd) (s t u : State) (us vs ws : AllUnits) → done + size ≡ all → IsRun code done None s t us vs → IsRun code size end t u vs ws → IsRun code all end s u us ws
one_round code done size all end s t u us vs ws is first next =
    let P : ℕ → Type 0 = λ m. IsRun code m end s u us ws in
    subst P is (then_runs code done size end s t u us vs ws first next)

-- a round that ends
pub last_round : (code : Code) (done size all : ℕ) (d : CpuEnd) (s t u : State) (us vs ws : AllUnits) → done + size ≤ all → IsRun code done None s t us vs → IsRun code size (Some d) t u vs ws → IsRun code all (Some d) s u us ws
last_round code done size all d s t u us vs ws le first next =
    let P : ℕ → Type 0 = λ m. IsRun code m (Some d) s u us ws in
    let is : done + size + (all - (done + size)) ≡ all = omega arith in
    subst P is (longer code (done + size) (all - (done + size)) d s u us ws (then_runs code done size (Some d) s t u us vs ws first next))
