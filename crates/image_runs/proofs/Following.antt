-- A Cpu that is followed step by step makes the run of its image.
use Rattle.std.proofs.Common.{◌≡◌, ◌≢◌, ℕ, zero, suc, ◌+◌, ◌-◌, ◌<◌, ◌⊎◌, inl, inr, List, [], ◌∷◌, ◌++◌, Option, None, Some, true, refl, sym, ap, subst, ◌∙◌, arith, append_assoc}
use Rattle.std.specs.Prelude.{is_some, IsSome, slice_get}
use Rattle.std.specs.List.{flat_map}
use Rattle.std.proofs.lemmas.List.{append-nil}
use Rattle.unit_io.specs.Tapes.{Tapes}
use Rattle.unit_io.specs.Units.{AllUnits, RoseAt}
use Rattle.unit_io.specs.Units as units
use Rattle.image_file.specs.Image.{Image}
use Rattle.rv_emulate.specs.declared.end.CpuEnd.{CpuEnd}
use Rattle.rv_emulate.specs.declared.end.CpuEnd.TheVariants as ends
use Rattle.rv_emulate.specs.declared.end.CpuStep.{CpuStep}
use Rattle.rv_emulate.specs.declared.end.CpuStep.TheVariants as steps
use Rattle.rv_emulate.specs.CpuTurns.{KeepsUnits}
use Rattle.rv_emulate.specs.Cpus.{CpuState, IfEnded, IsOf, SameImage, answer_of, is_told, stands, stands_with, state}
use Rattle.rv_emulate.specs.EmulatorStates.{State, Outcome, On, Ended, start}
use Rattle.rv_emulate.specs.EmulatorSteps.{step}
use Rattle.rv_emulate.specs.EmulatorRuns.{budget, emulation, end_of, listed, met, met_after, met_now, on_state, run, tapes_of}
use Rattle.rv_emulate.proofs.RunLaws.{met-add, met-end, run-add, run-end}
use Rattle.rv_emulate.proofs.UnitLaws.{rose_kept, rose_later, units_same, units_then}
use Rattle.image_runs.specs.FollowedRuns.{Follows, IsFollowed}
use Rattle.image_runs.specs.ImageRuns.{FaultCause, IsTold, RunsSo}
use Rattle.image_runs.specs.TracedRuns.{IsTraced, text_lines, traced_line}
use Rattle.image_runs.proofs.Emulated.{in-state, not-ended, start-failed, told-of}

-- ---- runs of one step more

run-one : (image : Image) (t : State) → run image 1 t ≡ step image t
unfolding run
run-one image t = on (step image t)
  where
    on : (o : Outcome) → on_state o (run image 0) ≡ o
    on (On s) = refl
    on (Ended e tapes) = refl

met-one : (image : Image) (t : State) → met image 1 t ≡ listed (met_now image t)
unfolding met
met-one image t = ap (λ xs. listed (met_now image t) ++ xs) (on (step image t)) ∙ append-nil (listed (met_now image t))
  where
    on : (o : Outcome) → met_after o (met image 0) ≡ []
    on (On s) = refl
    on (Ended e tapes) = refl

-- a run that tells all to its end tells all before
told-before : (image : Image) (i j : ℕ) (s : State) → is_told (run image (i + j) s) ≡ true → is_told (run image i s) ≡ true
told-before image i j s told = by (run image i s) refl
  where
    by : (o : Outcome) → run image i s ≡ o → is_told o ≡ true
    by (On t) e = refl
    by (Ended (Some c) tapes) e = refl
    by (Ended None tapes) e = sym (ap is_told (run-end image i j s None tapes e)) ∙ told

-- ---- lines

text-more : (image : Image) (ks ls : List ℕ) → text_lines image (ks ++ ls) ≡ text_lines image ks ++ text_lines image ls
text-more image [] ls = refl
text-more image (k ∷ ks) ls =
    ap (λ l. traced_line k (slice_get image.statements k) ++ l) (text-more image ks ls)
    ∙ sym (append_assoc (traced_line k (slice_get image.statements k)) (text_lines image ks) (text_lines image ls))

-- ---- a step

-- what a step of a Cpu gives
pub record Stepped (image : Image) (result : CpuStep) (old new : CpuState) (us vs : AllUnits) : Type 0 where
  pub makes : result ≢ steps.Ended ends.Memory → is_told (on_state (stands old (units.tapes_of us)) (step image)) ≡ true → stands new (units.tapes_of vs) ≡ on_state (stands old (units.tapes_of us)) (step image)
  pub answer : result ≡ answer_of new.ended
  pub same : SameImage old new
  pub units : KeepsUnits us vs
  pub failed : (n : ℕ) → new.failed ≡ Some n → (old.failed ≡ Some n) ⊎ RoseAt n us vs
  pub faults : (k unit : ℕ) → result ≡ steps.Ended (ends.UnitFault k unit) → IsSome old.ended ⊎ (old.failed ≡ Some unit)

still-of : (image : Image) (old new : CpuState) → IsOf image old → SameImage old new → IsOf image new
still-of image old new is same = record { code = same.code ∙ is.code; constants = same.constants ∙ is.constants; places = same.places ∙ is.places }

stands-on : (cpu : CpuState) (tapes : Tapes) → cpu.ended ≡ None → stands cpu tapes ≡ On (state cpu tapes)
stands-on cpu tapes none = ap (λ o. stands_with o (state cpu tapes)) none

next-none : (o : Option CpuEnd) (r : CpuStep) → r ≡ answer_of o → r ≡ steps.Next → o ≡ None
next-none None r is next = refl
next-none (Some e) r is next = let no : steps.Ended e ≡ steps.Next = sym is ∙ next in absurd (let none : ⊥ = cc in none)

ended-some : (o : Option CpuEnd) (r : CpuStep) (e : CpuEnd) → r ≡ answer_of o → r ≡ steps.Ended e → o ≡ Some e
ended-some None r e is ended = let no : steps.Next ≡ steps.Ended e = sym is ∙ ended in absurd (let none : ⊥ = cc in none)
ended-some (Some c) r e is ended = let no : steps.Ended c ≡ steps.Ended e = sym is ∙ ended in let same : c ≡ e = cc in ap Some same

failed-later : (n : ℕ) (us vs ws : AllUnits) (first between : Option ℕ) → KeepsUnits us vs → KeepsUnits vs ws → (between ≡ Some n → (first ≡ Some n) ⊎ RoseAt n us vs) → (between ≡ Some n) ⊎ RoseAt n vs ws → (first ≡ Some n) ⊎ RoseAt n us ws
failed-later n us vs ws first between keeps after before (inr rose) = inr (rose_later n us vs ws keeps rose)
failed-later n us vs ws first between keeps after before (inl e) = on (before e)
  where
    on : (first ≡ Some n) ⊎ RoseAt n us vs → (first ≡ Some n) ⊎ RoseAt n us ws
    on (inl f) = inl f
    on (inr rose) = inr (rose_kept n us vs ws rose after)

was-on : (o : Option CpuEnd) (P : Type 0) → o ≡ None → IsSome o ⊎ P → P
was-on None P none (inl h) = absurd (not-ended None none h)
was-on None P none (inr p) = p
was-on (Some e) P none h = absurd (let no : ⊥ = cc in no)

pub follows-none : (image : Image) (cpu : CpuState) (us : AllUnits) → IsOf image cpu → cpu.ended ≡ None → Follows image 0 cpu cpu [] us us
unfolding run met
follows-none image cpu us is none = record {
  same = is;
  on = none;
  runs = λ told. refl;
  tells = λ told. refl;
  units = units_same us;
  failed = λ n e. inl e;
}

module _ {image : Image} {i : ℕ} {old now new : CpuState} {lines : List ℕ} {us vs ws : AllUnits} (h : Follows image i old now lines us vs) (result : CpuStep) (s : Stepped image result now new vs ws) where
  abbrev first : State
  first = state old (units.tapes_of us)

  abbrev more : List ℕ
  more = lines ++ text_lines image (listed (met_now image (state now (units.tapes_of vs))))

  -- where the run is after one step more, if that is told
  one-more : result ≢ steps.Ended ends.Memory → is_told (run image (i + 1) first) ≡ true → run image (i + 1) first ≡ stands new (units.tapes_of ws)
  one-more had told =
      let before = h.runs (told-before image i 1 first told) in
      let goes : run image (i + 1) first ≡ step image (state now (units.tapes_of vs)) = run-add image i 1 first (state now (units.tapes_of vs)) before ∙ run-one image (state now (units.tapes_of vs)) in
      let from : on_state (stands now (units.tapes_of vs)) (step image) ≡ step image (state now (units.tapes_of vs)) = ap (λ o. on_state o (step image)) (stands-on now (units.tapes_of vs) h.on) in
      goes ∙ sym from ∙ sym (s.makes had (ap is_told (from ∙ sym goes) ∙ told))

  lines-more : is_told (run image (i + 1) first) ≡ true → more ≡ text_lines image (met image (i + 1) first)
  lines-more told =
      let told_now = told-before image i 1 first told in
      let before = h.runs told_now in
      ap (λ l. l ++ text_lines image (listed (met_now image (state now (units.tapes_of vs))))) (h.tells told_now)
      ∙ sym (text-more image (met image i first) (listed (met_now image (state now (units.tapes_of vs)))))
      ∙ ap (λ ks. text_lines image (met image i first ++ ks)) (sym (met-one image (state now (units.tapes_of vs))))
      ∙ ap (text_lines image) (sym (met-add image i 1 first (state now (units.tapes_of vs)) before))

  next-apart : result ≡ steps.Next → result ≢ steps.Ended ends.Memory
  next-apart next e = let no : steps.Next ≡ steps.Ended ends.Memory = sym next ∙ e in let none : ⊥ = cc in none

  -- a step that didn't end
  pub follows-next : result ≡ steps.Next → Follows image (i + 1) old new more us ws
  follows-next next =
      let none = next-none new.ended result s.answer next in
      record {
        same = still-of image now new h.same s.same;
        on = none;
        runs = λ told. one-more (next-apart next) told ∙ stands-on new (units.tapes_of ws) none;
        tells = lines-more;
        units = units_then us vs ws h.units s.units;
        failed = λ n e. failed-later n us vs ws old.failed now.failed h.units s.units (h.failed n) (s.failed n e);
      }

  ended-apart : (e : CpuEnd) → result ≡ steps.Ended e → e ≢ ends.Memory → result ≢ steps.Ended ends.Memory
  ended-apart e is had other = let same : steps.Ended e ≡ steps.Ended ends.Memory = sym is ∙ other in had (let c : e ≡ ends.Memory = cc in c)

  ended-at : (e : CpuEnd) (j : ℕ) → result ≡ steps.Ended e → e ≢ ends.Memory → is_told (run image (i + 1 + j) first) ≡ true → run image (i + 1) first ≡ Ended (Some e) (units.tapes_of ws)
  ended-at e j is had told =
      one-more (ended-apart e is had) (told-before image (i + 1) j first told)
      ∙ ap (λ o. stands_with o (state new (units.tapes_of ws))) (ended-some new.ended result e s.answer is)

  -- one that ended the run, under any budget that it is within
  ended-within : (e : CpuEnd) (j most : ℕ) → i + 1 + j ≡ most → result ≡ steps.Ended e → IsFollowed image most old e more us ws
  ended-within e j most size is = subst (λ k. IsFollowed image k old e more us ws) size (record {
    ends = λ had told. ap end_of (run-end image (i + 1) j first (Some e) (units.tapes_of ws) (ended-at e j is had told));
    leaves = λ had told. sym (ap tapes_of (run-end image (i + 1) j first (Some e) (units.tapes_of ws) (ended-at e j is had told)));
    tells = λ had told. lines-more (told-before image (i + 1) j first told) ∙ ap (text_lines image) (sym (met-end image (i + 1) j first (Some e) (units.tapes_of ws) (ended-at e j is had told)));
    faults = λ k n fault.
        let failed = was-on now.ended (now.failed ≡ Some n) h.on (s.faults k n (is ∙ ap steps.Ended fault)) in
        failed-later n us vs ws old.failed now.failed h.units s.units (h.failed n) (inl failed);
  })

  pub follows-end : (e : CpuEnd) (most : ℕ) → i < most → result ≡ steps.Ended e → IsFollowed image most old e more us ws
  follows-end e most below is = ended-within e (most - (i + 1)) most (omega (arith, below)) is

-- the budget is used up
pub follows-out : (image : Image) (i most : ℕ) (old now : CpuState) (lines : List ℕ) (us vs : AllUnits) → i ≡ most → Follows image i old now lines us vs → IsFollowed image most old ends.Runaway lines us vs
follows-out image i most old now lines us vs same h = subst (λ k. IsFollowed image k old ends.Runaway lines us vs) same (record {
  ends = λ had told. ap end_of (h.runs told);
  leaves = λ had told. sym (ap tapes_of (h.runs told));
  tells = λ had told. h.tells told;
  faults = λ k n fault. absurd (let none : ⊥ = cc in none);
})

-- ---- from the start

none-or : (n : ℕ) (o : Option ℕ) (P : Type 0) → o ≡ None → (o ≡ Some n) ⊎ P → P
none-or n o P none (inl e) = let no : None ≡ Some n = sym none ∙ e in absurd (let f : ⊥ = cc in f)
none-or n o P none (inr p) = p

fault-so : (old : CpuState) (end : CpuEnd) (us vs : AllUnits) → old.failed ≡ None → ((k n : ℕ) → end ≡ ends.UnitFault k n → (old.failed ≡ Some n) ⊎ RoseAt n us vs) → FaultCause end us vs
fault-so old (ends.UnitFault k n) us vs none faults = none-or n old.failed (RoseAt n us vs) none (faults k n refl)
fault-so old _ us vs none faults = tt

-- a Cpu that was followed from the start has traced the run
pub traced-so : (image : Image) (n b : ℕ) (end : CpuEnd) (old : CpuState) (lines : List ℕ) (us vs : AllUnits) → b ≡ budget image n → stands old (units.tapes_of us) ≡ On (start image (units.tapes_of us) n) → IsFollowed image b old end lines us vs → IsTraced image n end lines us vs
unfolding emulation
traced-so image n b end old lines us vs under begins h =
    let at = in-state old.ended (state old (units.tapes_of us)) (start image (units.tapes_of us) n) begins in
    let same : run image b (state old (units.tapes_of us)) ≡ run image (budget image n) (start image (units.tapes_of us) n) = ap (λ s. run image b s) at.1 ∙ ap (λ k. run image k (start image (units.tapes_of us) n)) under in
    let meets : met image b (state old (units.tapes_of us)) ≡ met image (budget image n) (start image (units.tapes_of us) n) = ap (λ s. met image b s) at.1 ∙ ap (λ k. met image k (start image (units.tapes_of us) n)) under in
    let told_from : IsTold image (units.tapes_of us) n → is_told (run image b (state old (units.tapes_of us))) ≡ true = λ told. ap is_told same ∙ told-of (run image (budget image n) (start image (units.tapes_of us) n)) told in
    record {
      ran = record {
        ends = λ had told. sym (ap end_of same) ∙ h.ends had (told_from told);
        leaves = λ had told. h.leaves had (told_from told) ∙ ap tapes_of same;
      };
      tells = λ had told. h.tells had (told_from told) ∙ ap (text_lines image) meets;
      faults = fault-so old end us vs (ap (λ s. s.failed) at.1 ∙ start-failed image (units.tapes_of us) n) h.faults;
    }
