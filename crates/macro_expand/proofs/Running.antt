-- The code of a program runs as the program does.
use Rattle.std.proofs.Common.{◌≡◌, ℕ, zero, suc, ◌+◌, ◌≤◌, List, [], ◌∷◌, ◌++◌, length, Option, Some, None, false, refl, sym, ap, ◌∙◌, subst, arith}
use Rattle.std.proofs.lemmas.Bool.Decides.{nat_tests}
use Rattle.std.specs.Prelude.{slice_get, nat_lt, if◌then◌else◌}
use Rattle.sil_base.specs.declared.limits.TheConstants.{MAX_STEPS}
use Rattle.layout_params.specs.Parameters.{Parameters}
use Rattle.unit_io.specs.RunEnds.{Run}
use Rattle.unit_io.specs.Tapes.{Tapes}
use Rattle.sil_model.specs.declared.end.End.{End}
use Rattle.sil_model.specs.declared.end.End.TheVariants as ends
use Rattle.sil_model.specs.declared.program.Program.{Program}
use Rattle.sil_model.specs.declared.program.Statement.{Statement}
use Rattle.sil_runs.specs.Costs.{cost}
use Rattle.sil_runs.specs.Machine.{after_step, ended, make_step, meet, with_statement}
use Rattle.sil_runs.specs.Machine as machine_of
use Rattle.sil_model.specs.Start.{first_state}
use Rattle.sil_model.specs.States.{State, Step, Goes, Ends}
use Rattle.sil_runs.specs.StepLaws.{IsSteady}
use Rattle.sil_model.specs.Valid.{IsValid}
use Rattle.sil_model.specs.WellFormed.{IsWellFormed}
use Rattle.sil_micro.specs.Codes.{MicroCode, place_of, setting_of}
use Rattle.sil_micro.specs.Expands.{at}
use Rattle.sil_micro.specs.Laws.{LawOfMeeting, LawOnWays, Leads}
use Rattle.sil_micro.specs.Operations.{begin_if}
use Rattle.sil_micro.specs.MicroRuns.{Outcome, At, RunsTo, and_on, at_op, at_statement, follow, met, met_after, met_by, run, step}
use Rattle.sil_micro.specs.MicroRuns as runs
use Rattle.sil_micro.specs.MicroStates.{Setting, Micro, first_micro}
use Rattle.sil_micro.proofs.Ways.{slice_get_none}
use Rattle.macro_expand.specs.Expanded.{IsExpansion}
use Rattle.macro_expand.specs.Steps.{Makes}
use Rattle.macro_expand.proofs.Costs.{makes_step}
use Rattle.macro_expand.proofs.Entering.{place_here}
use Rattle.macro_expand.proofs.Entering as entering

past_end : {A : Type 0} (xs : List A) → slice_get xs (length xs) ≡ None
past_end [] = refl
past_end (x ∷ xs) = past_end xs

module _ (g : Setting) (c : MicroCode) where
  -- from statement k on the code's run comes to this
  pub record Comes (k : ℕ) (u : Micro) (r : Run End) : Type 0 where
    pub fuel : ℕ
    pub last : Micro
    pub end : and_on (at_statement (place_of c k) u) (run g c fuel) ≡ runs.Ended r.end last
    pub tapes : last.state.tapes ≡ r.tapes
    pub met : met_after (at_statement (place_of c k) u) (met g c fuel) ≡ r.met

  run_one : (place : ℕ) (u : Micro) → run g c 1 place u ≡ and_on (step g c place u) (run g c 0)
  unfolding run
  run_one place u = refl

  met_one : (place : ℕ) (u : Micro) → met g c 1 place u ≡ met_by g (slice_get c.ops place) u ++ met_after (step g c place u) (met g c 0)
  unfolding met
  met_one place u = refl

  -- one operation ends the run
  ends_here : (k place : ℕ) (u v : Micro) (end : Option End) → place_of c k ≡ Some place → step g c place u ≡ runs.Ended end v → met_by g (slice_get c.ops place) u ≡ [] → v.state.tapes ≡ u.state.tapes → Comes k u (ended end u.state.tapes)
  ends_here k place u v end at_place is meets tapes = record {
    fuel = 1;
    last = v;
    end = ap (λ o. and_on (at_statement o u) (run g c 1)) at_place ∙ run_one place u ∙ ap (λ o. and_on o (run g c 0)) is;
    tapes = tapes;
    met = ap (λ o. met_after (at_statement o u) (met g c 1)) at_place ∙ met_one place u ∙ ap (λ o. met_by g (slice_get c.ops place) u ++ met_after o (met g c 0)) is ∙ ap (λ l. l ++ []) meets;
  }

  -- operations that meet statement k lead on
  leads_on : (k place m fuel : ℕ) (u last : Micro) (o : Outcome) (r : Run End) → place_of c k ≡ Some place → Leads g c m place u o (k ∷ []) →
      and_on o (run g c fuel) ≡ runs.Ended r.end last → last.state.tapes ≡ r.tapes → met_after o (met g c fuel) ≡ r.met → Comes k u (meet k r)
  leads_on k place m fuel u last o r at_place leads is tapes meets = record {
    fuel = m + fuel;
    last = last;
    end = ap (λ q. and_on (at_statement q u) (run g c (m + fuel))) at_place ∙ leads.run fuel ∙ is;
    tapes = tapes;
    met = ap (λ q. met_after (at_statement q u) (met g c (m + fuel))) at_place ∙ leads.met fuel ∙ ap (λ l. k ∷ l) meets;
  }

module _ (program : Program) (parameters : Parameters) (c : MicroCode) (x : IsExpansion program c) (good : IsWellFormed program parameters.settings) (steady : IsSteady program parameters) (on_ways : LawOnWays) (meeting : LawOfMeeting) (n : ℕ) (few : n ≤ MAX_STEPS) where
  abbrev g : Setting
  g = setting_of c parameters.settings n

  abbrev AllCome : ℕ → Type 0
  AllCome left = (k : ℕ) (u : Micro) → IsValid program parameters.settings (at k u.state) → u.state.steps + left ≡ n → Comes g c k u (machine_of.run program parameters left (at k u.state))

  -- past the last statement
  step_past : (place : ℕ) (u : Micro) → slice_get c.ops place ≡ None → step g c place u ≡ runs.Ended (Some (ends.Undefined (length c.entries))) u
  unfolding step
  step_past place u none = ap (λ o. at_op g c o place u) none

  past : (k : ℕ) (u : Micro) → k ≤ length program.statements → slice_get program.statements k ≡ None → Comes g c k u (ended (Some (ends.Undefined k)) u.state.tapes)
  past k u le none =
      let same : k ≡ length c.entries = omega (arith, le, slice_get_none program.statements k none, x.statements) in
      ends_here g c k (length c.ops) u u (Some (ends.Undefined k)) (place_here c k same) (step_past (length c.ops) u (past_end c.ops) ∙ ap (λ i. runs.Ended (Some (ends.Undefined i)) u) (sym same))
      (ap (λ o. met_by g o u) (past_end c.ops)) refl

  module _ (k : ℕ) (statement : Statement) (there : slice_get program.statements k ≡ Some statement) where
    -- no steps are left
    none_left : (u : Micro) → u.state.steps ≡ n → Comes g c k u (ended (Some ends.Budget) u.state.tapes)
    unfolding step
    none_left u e =
        let spent : nat_lt u.state.steps n ≡ false = grind (arith, nat_tests, e) in
        let base = (x.each k statement there).base in
        let v = record u { state = record u.state { statement = k }; spent = u.spent + 28 } in
        let first = entering.first program parameters c x good on_ways meeting n k statement there in
        ends_here g c k base u v (Some ends.Budget) (entering.entered program parameters c x good on_ways meeting n k statement there)
        (ap (λ o. at_op g c o base u) first ∙ ap (λ b. follow c base (begin_if b k (record u { spent = u.spent + 28 }))) spent)
        (ap (λ o. met_by g o u) first ∙ ap (λ b. if b then k ∷ [] else []) spent) refl

    -- a step is made
    arrives : (left place m most : ℕ) (u : Micro) → AllCome left → place_of c k ≡ Some place → (o : Outcome) (s : Step) → Leads g c m place u o (k ∷ []) → Makes c o s most →
        ((t : State) → s ≡ Goes t → IsValid program parameters.settings t × (t.steps + left ≡ n)) → Comes g c k u (meet k (after_step s ended (machine_of.run program parameters left)))
    arrives left place m most u all at_place (At q v) (Goes t) leads makes keeps =
        let kept = keeps t refl in
        let steps : v.state.steps ≡ t.steps = ap (λ s. s.steps) makes.1 in
        let rest = all t.statement v (subst (λ s. IsValid program parameters.settings s) (sym makes.1) kept.0) (omega (arith, steps, kept.1)) in
        subst (λ s. Comes g c k u (meet k (machine_of.run program parameters left s))) makes.1
        (leads_on g c k place m rest.fuel u rest.last (At q v) (machine_of.run program parameters left (at t.statement v.state)) at_place leads
        (subst (λ o. and_on (at_statement o v) (run g c rest.fuel) ≡ runs.Ended (machine_of.run program parameters left (at t.statement v.state)).end rest.last) makes.0 rest.end) rest.tapes
        (subst (λ o. met_after (at_statement o v) (met g c rest.fuel) ≡ (machine_of.run program parameters left (at t.statement v.state)).met) makes.0 rest.met))
    arrives left place m most u all at_place (runs.Ended end v) (Ends end' tapes) leads makes keeps =
        leads_on g c k place m 0 u v (runs.Ended end v) (ended end' tapes) at_place leads (ap (λ e. runs.Ended e v) makes.0) makes.1 refl
    arrives left place m most u all at_place (At q v) (Ends end' tapes) leads makes keeps = absurd makes
    arrives left place m most u all at_place (runs.Ended end v) (Goes t) leads makes keeps = absurd makes
    arrives left place m most u all at_place runs.IsStuck s leads makes keeps = absurd makes

    one_step : (left : ℕ) (u : Micro) → AllCome left → IsValid program parameters.settings (at k u.state) → u.state.steps + suc left ≡ n → Comes g c k u (meet k (after_step (make_step program parameters statement (at k u.state)) ended (machine_of.run program parameters left)))
    one_step left u all valid e =
        let m = makes_step program parameters c x good steady on_ways meeting n few k statement there u valid (omega (arith, e)) in
        arrives left m.place m.count (cost program parameters statement (at k u.state)) u all m.entered m.outcome (make_step program parameters statement (at k u.state)) m.leads m.makes
        (λ t is. let kept = steady.keeps statement (at k u.state) t there valid (omega (arith, e, few)) is in (kept.0, omega (arith, kept.1, e)))

  at_zero : (o : Option Statement) (k : ℕ) (u : Micro) → slice_get program.statements k ≡ o → k ≤ length program.statements → u.state.steps + 0 ≡ n →
      Comes g c k u (with_statement o (ended (Some (ends.Undefined k)) u.state.tapes) (λ statement. ended (Some ends.Budget) u.state.tapes))
  at_zero None k u is le e = past k u le is
  at_zero (Some statement) k u is le e = none_left k statement is u (omega (arith, e))

  at_more : (left : ℕ) (o : Option Statement) (k : ℕ) (u : Micro) → AllCome left → slice_get program.statements k ≡ o → IsValid program parameters.settings (at k u.state) → u.state.steps + suc left ≡ n →
      Comes g c k u (with_statement o (ended (Some (ends.Undefined k)) u.state.tapes) (λ statement. meet k (after_step (make_step program parameters statement (at k u.state)) ended (machine_of.run program parameters left))))
  at_more left None k u all is valid e = past k u valid.within is
  at_more left (Some statement) k u all is valid e = one_step k statement is left u all valid e

  all_come : (left : ℕ) → AllCome left
  unfolding machine_of.run
  all_come zero = λ k u valid e. at_zero (slice_get program.statements k) k u refl valid.within e
  all_come (suc left) = λ k u valid e. at_more left (slice_get program.statements k) k u (all_come left) refl valid e

  at_first : (tapes : Tapes) → at 0 (first_state program parameters.settings tapes) ≡ first_state program parameters.settings tapes
  unfolding first_state
  at_first tapes = refl

  pub runs_to : (tapes : Tapes) → (fuel : ℕ) × RunsTo g c fuel (first_state program parameters.settings tapes) (machine_of.machine program parameters tapes n)
  runs_to tapes =
      let s = first_state program parameters.settings tapes in
      let start = steady.start tapes in
      let come : Comes g c 0 (first_micro s) (machine_of.run program parameters n (at 0 s)) = all_come n 0 (first_micro s) (subst (λ t. IsValid program parameters.settings t) (sym (at_first tapes)) start.0) (omega (arith, start.1)) in
      let come' : Comes g c 0 (first_micro s) (machine_of.run program parameters n s) = subst (λ t. Comes g c 0 (first_micro s) (machine_of.run program parameters n t)) (at_first tapes) come in
      (come'.fuel, record { last = come'.last; end = come'.end; tapes = come'.tapes; met = come'.met })
