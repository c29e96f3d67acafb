-- A run makes a step and goes on.
use Rattle.std.proofs.Common.{◌≡◌, ◌≢◌, ℕ, zero, suc, ◌-◌, ◌<◌, Option, Some, None, Ok, Err, refl, sym, subst, arith, ap, ◌∙◌}
use Rattle.std.specs.Prelude.{slice_get, true, false, is_some}
use Rattle.layout_params.specs.Parameters.{Parameters}
use Rattle.unit_io.specs.Tapes.{Tapes}
use Rattle.sil_model.specs.declared.end.End.{End}
use Rattle.sil_model.specs.declared.end.End.TheVariants.{Undefined, Budget}
use Rattle.sil_model.specs.declared.end.End.TheVariants as ends
use Rattle.sil_model.specs.declared.program.Program.{Program}
use Rattle.sil_model.specs.declared.program.Statement.{Statement}
use Rattle.sil_runs.specs.Machine.{make_step, step, run, after_step, ended, meet, with_statement}
use Rattle.sil_model.specs.Settling.{ends_with}
use Rattle.sil_model.specs.States.{State, Step, Goes, Ends, is_told}
use Rattle.sil_machine.specs.Outcomes.{RunOutcome, outcome_of, end_at, IsAs}
use Rattle.sil_machine.specs.Positions.{Makes, ended_with_memory, left}
use Rattle.unit_io.specs.RunEnds.{Run}

abbrev pub ended_so : Option End → Tapes → RunOutcome
ended_so end tapes = record { end = end; tapes = tapes }

abbrev seen_of : Run End → RunOutcome
seen_of r = record { end = r.end; tapes = r.tapes }

by_step : (program : Program) (parameters : Parameters) (n k : ℕ) (r : Step) → seen_of (meet k (after_step r ended (run program parameters n))) ≡ after_step r ended_so (outcome_of program parameters n)
unfolding outcome_of
by_step program parameters n k (Goes t) = refl
by_step program parameters n k (Ends end tapes) = refl

at_statement : (program : Program) (parameters : Parameters) (n : ℕ) (s : State) (o : Option Statement) →
    seen_of (with_statement o (ended (Some (Undefined s.statement)) s.tapes) (λ statement. meet s.statement (after_step (make_step program parameters statement s) ended (run program parameters n))))
    ≡ after_step (with_statement o (ends_with (Undefined s.statement) s) (λ statement. make_step program parameters statement s)) ended_so (outcome_of program parameters n)
at_statement program parameters n s None = refl
at_statement program parameters n s (Some statement) = by_step program parameters n s.statement (make_step program parameters statement s)

outcome_more : (program : Program) (parameters : Parameters) (n : ℕ) (s : State) → 0 < n → outcome_of program parameters n s ≡ after_step (step program parameters s) ended_so (outcome_of program parameters (n - 1))
unfolding outcome_of run step
outcome_more program parameters zero s h = absurd (omega (arith, h))
outcome_more program parameters (suc n) s h =
    let e : suc n - 1 ≡ n = omega arith in
    rw e (at_statement program parameters n s (slice_get program.statements s.statement))

without_steps : (s : State) (o : Option Statement) →
    seen_of (with_statement o (ended (Some (Undefined s.statement)) s.tapes) (λ statement. ended (Some Budget) s.tapes))
    ≡ record { end = Some (with_statement o (Undefined s.statement) (λ statement. Budget)); tapes = s.tapes }
without_steps s None = refl
without_steps s (Some statement) = refl

outcome_none : (program : Program) (parameters : Parameters) (n : ℕ) (s : State) → n ≡ 0 → outcome_of program parameters n s ≡ record { end = Some (end_at program s.statement); tapes = s.tapes }
unfolding outcome_of run end_at
outcome_none program parameters n s e = rw e (without_steps s (slice_get program.statements s.statement))

-- ---- runs that have an end where the whole has one

no_end : (tapes : Tapes) (whole : RunOutcome) → ended_so None tapes ≡ whole → is_some whole.end ≡ true → ⊥
no_end tapes whole e h = let k : false ≡ true = subst (λ (w : RunOutcome). is_some w.end ≡ true) (sym e) h in cc

told_goes : (r : Step) (t : State) (rest : State → RunOutcome) (whole : RunOutcome) → (is_told r ≡ true → r ≡ Goes t) → (is_some whole.end ≡ true → after_step r ended_so rest ≡ whole) →
    is_some whole.end ≡ true → rest t ≡ whole
told_goes (Goes s) t rest whole made so h = ap (λ (r : Step). after_step r ended_so rest) (sym (made refl)) ∙ so h
told_goes (Ends (Some end) tapes) t rest whole made so h = ap (λ (r : Step). after_step r ended_so rest) (sym (made refl)) ∙ so h
told_goes (Ends None tapes) t rest whole made so h = absurd (no_end tapes whole (so h) h)

told_ends : (r : Step) (end : End) (tapes : Tapes) (rest : State → RunOutcome) (whole : RunOutcome) → (is_told r ≡ true → r ≡ Ends (Some end) tapes) → (is_some whole.end ≡ true → after_step r ended_so rest ≡ whole) →
    is_some whole.end ≡ true → ended_so (Some end) tapes ≡ whole
told_ends (Goes s) end tapes rest whole made so h = ap (λ (r : Step). after_step r ended_so rest) (sym (made refl)) ∙ so h
told_ends (Ends (Some e) left) end tapes rest whole made so h = ap (λ (r : Step). after_step r ended_so rest) (sym (made refl)) ∙ so h
told_ends (Ends None left) end tapes rest whole made so h = absurd (no_end left whole (so h) h)

-- a step that goes on, where the run has an end
pub turn_goes : (program : Program) (parameters : Parameters) (n : ℕ) (s t : State) (whole : RunOutcome) → 0 < n → Makes (step program parameters s) (Ok tt) t →
    IsAs (outcome_of program parameters n s) whole → IsAs (outcome_of program parameters (n - 1) t) whole
unfolding Makes IsAs
turn_goes program parameters n s t whole h made so =
    told_goes (step program parameters s) t (outcome_of program parameters (n - 1)) whole (made refl) (λ w. sym (outcome_more program parameters n s h) ∙ so w)

with_memory : (end : End) → end ≢ ends.Memory → ended_with_memory (Err end) ≡ true
with_memory ends.Memory h = absurd (h refl)
with_memory _ h = refl

-- a step that ends the run
pub turn_ends : (program : Program) (parameters : Parameters) (n : ℕ) (s t : State) (end : End) (whole : RunOutcome) → end ≢ ends.Memory → 0 < n → Makes (step program parameters s) (Err end) t →
    IsAs (outcome_of program parameters n s) whole → IsAs (ended_so (Some end) t.tapes) whole
unfolding Makes IsAs
turn_ends program parameters n s t end whole not_memory h made so =
    told_ends (step program parameters s) end t.tapes (outcome_of program parameters (n - 1)) whole (made (with_memory end not_memory)) (λ w. sym (outcome_more program parameters n s h) ∙ so w)

-- no steps are left
pub turn_none : (program : Program) (parameters : Parameters) (n : ℕ) (s : State) (whole : RunOutcome) → n ≡ 0 → IsAs (outcome_of program parameters n s) whole → IsAs (ended_so (Some (end_at program s.statement)) s.tapes) whole
unfolding IsAs
turn_none program parameters n s whole e so w = sym (outcome_none program parameters n s e) ∙ so w

pub same_run : (o : RunOutcome) → IsAs o o
unfolding IsAs
same_run o w = refl

no_fault : (o : Option Statement) (n k unit : ℕ) → with_statement o (Undefined n) (λ statement. Budget) ≡ ends.UnitFault k unit → ⊥
no_fault None n k unit e = cc
no_fault (Some statement) n k unit e = cc

-- where no steps are left no unit fails
pub end_without_fault : (program : Program) (n k unit : ℕ) → end_at program n ≡ ends.UnitFault k unit → ⊥
unfolding end_at
end_without_fault program n k unit e = no_fault (slice_get program.statements n) n k unit e
