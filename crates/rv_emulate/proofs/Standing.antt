-- Where the run of a Cpu stands after a step or more.
use Rattle.std.proofs.Common.{◌≡◌, ◌≢◌, ℕ, zero, suc, ◌+◌, ◌⊎◌, inl, inr, List, [], ◌∷◌, length, map, Bool, true, false, ◌==◌, if◌then◌else◌, Option, Some, None, refl, sym, ap, subst, ◌∙◌, add-one}
use Rattle.std.specs.Prelude.{unwrap_or}
use Rattle.std.specs.List.{position_from}
use Rattle.std.proofs.lemmas.List.{length-map}
use Rattle.unit_io.specs.Tapes.{Tapes}
use Rattle.unit_io.specs.Units.{AllUnits, RoseAt, tapes_of}
use Rattle.image_file.specs.Image.{Image, StatementEntry}
use Rattle.rv_emulate.specs.declared.code.Code.{Code}
use Rattle.rv_emulate.specs.declared.hart.Hart.{Hart}
use Rattle.rv_emulate.specs.declared.end.CpuEnd.{CpuEnd}
use Rattle.rv_emulate.specs.declared.end.CpuEnd.TheVariants.{Runaway, UnitFault, Memory}
use Rattle.rv_emulate.specs.declared.end.CpuStep.{CpuStep}
use Rattle.rv_emulate.specs.declared.end.CpuStep.TheVariants as steps
use Rattle.rv_emulate.specs.EmulatorStates.{State, Outcome, On, Ended, steps_left}
use Rattle.rv_emulate.specs.EmulatorSteps.{step}
use Rattle.rv_emulate.specs.EmulatorRuns.{run, on_state, end_of, entry_from, entry_at, met_with, met_now}
use Rattle.rv_emulate.specs.Cpus.{CpuState, IsOf, is_told, stands, stands_with, state}
use Rattle.rv_emulate.specs.CpuView.{state_of, view_of, entry_of, code_step, code_run, Steps, Runs}
use Rattle.rv_emulate.specs.CpuTurns.{FailedOrRose, IsStep, IsRun}
use Rattle.rv_emulate.proofs.Alike.{IsCodeOf, step_alike, run_alike}
use Rattle.rv_emulate.proofs.Turns.{end_by}

pub alike : (image : Image) (code : Code) (u : Hart) (e : Option CpuEnd) → IsOf image (view_of code u e) → IsCodeOf code image
alike image code u e h = record {
  instrs = h.code;
  constants = h.constants;
  count = length-map code.places.items entry_of ∙ ap length h.places ∙ length-map image.statements (λ e. e.place);
}

-- what a step and its answer say of where the run stands
stepped : (o : Outcome) (d : CpuStep) (s t : State) → Steps o d s t → stands_with (end_by d) t ≡ o
stepped (On v) steps.Next s t h = ap On (sym h)
stepped (On v) (steps.Ended d) s t h = absurd h
stepped (Ended e tapes) steps.Next s t h = absurd h
stepped (Ended e tapes) (steps.Ended d) s t h = ap (λ x. Ended x t.tapes) (sym h.0) ∙ ap (λ x. Ended e x) (sym h.1)

-- where a Cpu that hadn't ended stands
stood : {X : Type 0} (go : Outcome → X) (code : Code) (u : Hart) (e : Option CpuEnd) (cpu : CpuState) (tapes : Tapes) → e ≡ None → view_of code u e ≡ cpu → go (stands cpu tapes) ≡ go (On (state_of u tapes))
stood go code u e cpu tapes none is = ap (λ c. go (stands c tapes)) (sym is) ∙ ap (λ x. go (stands_with x (state_of u tapes))) none

the_step : (image : Image) (code : Code) (u : Hart) (e : Option CpuEnd) (cpu : CpuState) (tapes : Tapes) → e ≡ None → view_of code u e ≡ cpu → IsOf image cpu → on_state (stands cpu tapes) (step image) ≡ code_step code (state_of u tapes)
the_step image code u e cpu tapes none is of =
    let P : CpuState → Type 0 = λ c. IsOf image c in
    stood (λ o. on_state o (step image)) code u e cpu tapes none is ∙ step_alike code image (alike image code u e (subst P (sym is) of)) (state_of u tapes)

-- a Cpu that hadn't ended, after a step
pub step_stands : (image : Image) (code : Code) (u v : Hart) (e : Option CpuEnd) (d : CpuStep) (cpu : CpuState) (us vs : AllUnits) → e ≡ None → view_of code u e ≡ cpu → IsOf image cpu → IsStep code d (state_of u (tapes_of us)) (state_of v (tapes_of vs)) us vs → d ≢ steps.Ended Memory → is_told (on_state (stands cpu (tapes_of us)) (step image)) ≡ true → stands_with (end_by d) (state_of v (tapes_of vs)) ≡ on_state (stands cpu (tapes_of us)) (step image)
step_stands image code u v e d cpu us vs none is of h memory told =
    let same = the_step image code u e cpu (tapes_of us) none is of in
    stepped (code_step code (state_of u (tapes_of us))) d (state_of u (tapes_of us)) (state_of v (tapes_of vs)) (h.turn.makes memory (ap is_told (sym same) ∙ told)) ∙ sym same

-- and after one that was made
pub next_stands : (image : Image) (code : Code) (u v : Hart) (e : Option CpuEnd) (cpu : CpuState) (us vs : AllUnits) → e ≡ None → view_of code u e ≡ cpu → IsOf image cpu → IsStep code steps.Next (state_of u (tapes_of us)) (state_of v (tapes_of vs)) us vs → is_told (on_state (stands cpu (tapes_of us)) (step image)) ≡ true → stands (view_of code v e) (tapes_of vs) ≡ on_state (stands cpu (tapes_of us)) (step image)
next_stands image code u v e cpu us vs none is of h told =
    ap (λ x. stands_with x (state_of v (tapes_of vs))) none ∙ step_stands image code u v e steps.Next cpu us vs none is of h (λ f. cc) told

the_run : (image : Image) (code : Code) (u : Hart) (e : Option CpuEnd) (cpu : CpuState) (tapes : Tapes) (n : ℕ) → e ≡ None → view_of code u e ≡ cpu → IsOf image cpu → on_state (stands cpu tapes) (run image n) ≡ code_run code n (state_of u tapes)
the_run image code u e cpu tapes n none is of =
    let P : CpuState → Type 0 = λ c. IsOf image c in
    stood (λ o. on_state o (run image n)) code u e cpu tapes none is ∙ run_alike code image (alike image code u e (subst P (sym is) of)) n (state_of u tapes)

ran : (o : Outcome) (r : Option CpuEnd) (t : State) → Runs o r t → (stands_with r t ≡ o) × (end_of o ≡ Some (unwrap_or r Runaway))
ran (On v) None t h = (ap On (sym h), refl)
ran (On v) (Some d) t h = absurd h
ran (Ended e tapes) None t h = absurd h
ran (Ended e tapes) (Some d) t h = (ap (λ x. Ended x t.tapes) (sym h.0) ∙ ap (λ x. Ended e x) (sym h.1), h.0)

no_memory : (r : Option CpuEnd) (d : CpuEnd) → d ≡ unwrap_or r Runaway → d ≢ Memory → r ≢ Some Memory
no_memory r d is h e = h (is ∙ ap (λ x. unwrap_or x Runaway) e)

-- a Cpu that hadn't ended, after a run, and its end
pub run_stands : (image : Image) (code : Code) (u v : Hart) (e r : Option CpuEnd) (d : CpuEnd) (cpu : CpuState) (us vs : AllUnits) (n : ℕ) → e ≡ None → view_of code u e ≡ cpu → IsOf image cpu → IsRun code n r (state_of u (tapes_of us)) (state_of v (tapes_of vs)) us vs → d ≡ unwrap_or r Runaway → d ≢ Memory → is_told (on_state (stands cpu (tapes_of us)) (run image n)) ≡ true →
    (stands (view_of code v r) (tapes_of vs) ≡ on_state (stands cpu (tapes_of us)) (run image n)) × (end_of (on_state (stands cpu (tapes_of us)) (run image n)) ≡ Some d)
run_stands image code u v e r d cpu us vs n none is of h end memory told =
    let same = the_run image code u e cpu (tapes_of us) n none is of in
    let made = ran (code_run code n (state_of u (tapes_of us))) r (state_of v (tapes_of vs)) (h.makes (no_memory r d end memory) (ap is_told (sym same) ∙ told)) in
    (made.0 ∙ sym same, ap end_of same ∙ made.1 ∙ sym (ap Some end))

end_is : (r : Option CpuEnd) (d : CpuEnd) (k n : ℕ) → d ≡ unwrap_or r Runaway → d ≡ UnitFault k n → r ≡ Some (UnitFault k n)
end_is None d k n is e = absurd cc
end_is (Some x) d k n is e = ap Some (sym is ∙ e)

pub end_is_memory : (r : Option CpuEnd) (d : CpuEnd) → d ≡ unwrap_or r Runaway → d ≡ Memory → r ≡ Some Memory
end_is_memory None d is e = absurd cc
end_is_memory (Some x) d is e = ap Some (sym is ∙ e)

-- ---- units that fail

pub fails : (code : Code) (u : Hart) (e : Option CpuEnd) (cpu : CpuState) (n : ℕ) (us vs : AllUnits) → view_of code u e ≡ cpu → FailedOrRose n (state_of u (tapes_of us)) us vs → (cpu.failed ≡ Some n) ⊎ RoseAt n us vs
fails code u e cpu n us vs is (inl h) = inl (sym (ap (λ c. c.failed) is) ∙ h)
fails code u e cpu n us vs is (inr rose) = inr rose

pub run_fails : (code : Code) (u v : Hart) (e r : Option CpuEnd) (d : CpuEnd) (cpu : CpuState) (budget k n : ℕ) (us vs : AllUnits) → view_of code u e ≡ cpu → IsRun code budget r (state_of u (tapes_of us)) (state_of v (tapes_of vs)) us vs → d ≡ unwrap_or r Runaway → d ≡ UnitFault k n → (cpu.failed ≡ Some n) ⊎ RoseAt n us vs
run_fails code u v e r d cpu budget k n us vs is h end fault = fails code u e cpu n us vs is (h.faults k n (end_is r d k n end fault))

-- ---- the statement that is met

entry_at_position : (k pc : ℕ) (es : List StatementEntry) → position_from (λ place. pc == place) k (map (λ e. e.place) es) ≡ entry_from k es pc
entry_at_position k pc [] = refl
entry_at_position k pc (e ∷ es) = test (pc == e.place) (entry_at_position (suc k) pc es)
  where
    test : (b : Bool) → position_from (λ place. pc == place) (suc k) (map (λ e. e.place) es) ≡ entry_from (suc k) es pc → (if b then Some k else position_from (λ place. pc == place) (k + 1) (map (λ e. e.place) es)) ≡ (if b then Some k else entry_from (suc k) es pc)
    test true h = refl
    test false h = ap (λ n. position_from (λ place. pc == place) n (map (λ e. e.place) es)) (add-one k) ∙ h

some_left : (left : ℕ) (o : Option ℕ) → left ≢ 0 → met_with o left ≡ o
some_left zero o h = absurd (h refl)
some_left (suc left) o h = refl

pub met_is : (image : Image) (tapes : Tapes) (cpu : CpuState) → IsOf image cpu → steps_left (state cpu tapes) ≢ 0 → position_from (λ place. cpu.pc == place) 0 cpu.places ≡ met_now image (state cpu tapes)
unfolding entry_at
met_is image tapes cpu of h =
    ap (λ places. position_from (λ place. cpu.pc == place) 0 places) of.places
    ∙ entry_at_position 0 cpu.pc image.statements
    ∙ sym (some_left (steps_left (state cpu tapes)) (entry_at image.statements cpu.pc) h)

pub none_met : (image : Image) (tapes : Tapes) (cpu : CpuState) → steps_left (state cpu tapes) ≡ 0 → None ≡ met_now image (state cpu tapes)
none_met image tapes cpu h = ap (λ left. met_with (entry_at image.statements cpu.pc) left) (sym h)
