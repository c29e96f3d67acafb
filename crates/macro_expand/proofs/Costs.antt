-- Each statement's code makes its step within its cost.
use Rattle.std.proofs.Common.{◌≡◌, ℕ, zero, suc, ◌+◌, ◌<◌, ◌≤◌, [], ◌∷◌, length, Some, true, false, refl, sym, ap, ◌∙◌, subst, arith, add-zero}
use Rattle.std.proofs.lemmas.Bool.Decides.{nat_tests}
use Rattle.std.specs.Prelude.{slice_get, nat_lt}
use Rattle.sil_base.specs.declared.limits.TheConstants.{MAX_STEPS}
use Rattle.layout_params.specs.Parameters.{Parameters}
use Rattle.sil_macros.specs.declared.names.Macro.TheVariants.{Rrturn}
use Rattle.sil_model.specs.declared.program.Program.{Program}
use Rattle.sil_model.specs.declared.program.Statement.{Statement}
use Rattle.flow_clauses.specs.CallClauses.{rrturn}
use Rattle.sil_runs.specs.Costs.{cost, weight, visits}
use Rattle.sil_runs.specs.Machine.{make_step}
use Rattle.sil_model.specs.Settling.{settle}
use Rattle.sil_model.specs.Sites.{Site}
use Rattle.sil_model.specs.States.{State, Step, Goes}
use Rattle.sil_runs.specs.Table.{clause}
use Rattle.sil_runs.specs.StepLaws.{IsSteady}
use Rattle.sil_model.specs.Valid.{IsValid}
use Rattle.sil_model.specs.WellFormed.{IsWellFormed}
use Rattle.sil_micro.specs.Codes.{MicroCode, setting_of}
use Rattle.sil_micro.specs.Expands.{CanBegin, Meets, at, cost_at, site_at}
use Rattle.sil_micro.specs.Laws.{LawOfMeeting, LawOnWays, Leads, way_met}
use Rattle.sil_micro.specs.MicroStates.{Setting, Micro}
use Rattle.sil_micro.specs.MicroWays.{Way, Returned, way}
use Rattle.sil_micro.specs.MicroWays as ways
use Rattle.sil_micro.proofs.Making.{by_test}
use Rattle.exp_calls.specs.CallHalves.{DoesReturn, MeetsReturn}
use Rattle.exp_calls.specs.Group.{is_return}
use Rattle.exp_units.specs.InFormats.{DoesIn}
use Rattle.macro_expand.specs.Expanded.{DoesStep, HasPiece, IsExpansion}
use Rattle.macro_expand.specs.Steps.{MakesStep}
use Rattle.macro_expand.proofs.Entering as entering
use Rattle.macro_expand.proofs.Entering.{Arrives, makes_within}
use Rattle.macro_expand.proofs.Halves.{clause_of_return, return_alone}
use Rattle.macro_expand.proofs.Returning.{goes_back}

module _ (program : Program) (parameters : Parameters) (c : MicroCode) (x : IsExpansion program c) (good : IsWellFormed program parameters.settings) (steady : IsSteady program parameters) (on_ways : LawOnWays) (meeting : LawOfMeeting) (n : ℕ) (few : n ≤ MAX_STEPS) (k : ℕ) (statement : Statement) (there : slice_get program.statements k ≡ Some statement) where
  abbrev g : Setting
  g = setting_of c parameters.settings n

  abbrev p : HasPiece c program.specials k statement
  p = x.each k statement there

  -- operations from the beginning of the piece
  from_entry : (u : Micro) (step : Step) (most : ℕ) → Arrives g c (p.base + 0) u (k ∷ []) step most → MakesStep g c k u step most
  from_entry u step most a = record {
    place = p.base;
    entered = entering.entered program parameters c x good on_ways meeting n k statement there;
    count = a.count;
    outcome = a.outcome;
    leads = subst (λ place. Leads g c a.count place u a.outcome (k ∷ [])) (add-zero p.base) a.leads;
    makes = a.makes;
  }

  module _ (u : Micro) (some : nat_lt u.state.steps n ≡ true) where
    -- the piece makes the step by itself
    made : (fuel : ℕ) (w : Way) (s : Step) (most : ℕ) → way g (k + 1) p.piece fuel 0 u ≡ w → Meets w s most → ((t : State) → s ≡ Goes t → t.statement ≤ length program.statements) → MakesStep g c k u s most
    made zero w s most e meets within = absurd (subst (λ v. Meets v s most) (sym e) meets)
    made (suc fuel) w s most e meets within =
        from_entry u s most (subst (λ l. Arrives g c (p.base + 0) u l s most) (entering.met_here program parameters c x good on_ways meeting n k statement there fuel u some)
        (entering.arrives program parameters c x good on_ways meeting n k statement there (suc fuel) 0 u w s most (omega arith) e meets within))

    module _ (valid : IsValid program parameters.settings (at k u.state)) where
      abbrev site : Site
      site = site_at program parameters k statement.args

      abbrev s : State
      s = at k u.state

      abbrev IsWithin : Step → Type 0
      IsWithin step = (t : State) → step ≡ Goes t → t.statement ≤ length program.statements

      -- the piece of a return makes its part, and the return part of its call the rest
      abbrev step : Step
      step = settle s (rrturn site s)

      abbrev most : ℕ
      most = cost_at statement.args (visits Rrturn) site s

      returned : (fuel : ℕ) (w : Way) → way g (k + 1) p.piece fuel 0 u ≡ w → MeetsReturn w site s → IsWithin step → MakesStep g c k u step most
      returned zero w e meets within = absurd (subst (λ v. MeetsReturn v site s) (sym e) meets)
      returned (suc fuel) (Returned entry v) e meets within =
          let f = entering.follows program parameters c x good on_ways meeting n k statement there (suc fuel) 0 u (Returned entry v) (omega arith) e in
          let back = goes_back program parameters c x good on_ways meeting n k statement u valid within entry v meets (way_met g (k + 1) p.piece (suc fuel) 0 u) (p.base + 0) f.0 f.1 in
          let whole : Arrives g c (p.base + 0) u (way_met g (k + 1) p.piece (suc fuel) 0 u) step most = record { count = back.count; outcome = back.outcome; leads = back.leads; makes = makes_within c back.outcome step 2000 most (omega arith) back.makes } in
          from_entry u step most (subst (λ l. Arrives g c (p.base + 0) u l step most) (entering.met_here program parameters c x good on_ways meeting n k statement there fuel u some) whole)
      returned (suc fuel) (ways.Ended end v) e meets within = made (suc fuel) (ways.Ended end v) step most e meets within
      returned (suc fuel) (ways.Came j v) e meets within = absurd meets
      returned (suc fuel) ways.IsStuck e meets within = absurd meets
      returned (suc fuel) ways.Unfinished e meets within = absurd meets

      begins : CanBegin g program parameters program.specials k statement.args u
      begins = entering.can_begin program parameters c x good on_ways meeting n k statement there u valid some

      stays : u.state.steps < n → IsWithin (make_step program parameters statement s)
      stays left = λ t is. (steady.keeps statement s t there valid (omega (arith, left, few)) is).0.within

      by_itself : u.state.steps < n → is_return statement.name ≡ false → MakesStep g c k u (make_step program parameters statement s) (cost program parameters statement s)
      unfolding make_step cost weight
      by_itself left other =
          let does : DoesIn c.formats k p.piece program.specials statement.args (clause statement.name) (visits statement.name) = subst (λ b. DoesStep b c.formats k p.piece program.specials statement.name statement.args) other p.does in
          let d = does g program parameters u begins refl in
          made d.fuel (way g (k + 1) p.piece d.fuel 0 u) (make_step program parameters statement s) (cost_at statement.args (visits statement.name) site s) refl d.meets (stays left)

      same_step : statement.name ≡ Rrturn → make_step program parameters statement s ≡ step
      unfolding make_step
      same_step is = ap (λ name. settle s (clause name site s)) is ∙ ap (λ f. settle s (f site s)) clause_of_return

      same_cost : statement.name ≡ Rrturn → cost program parameters statement s ≡ most
      unfolding cost weight
      same_cost is = ap (λ name. cost_at statement.args (visits name) site s) is

      by_call : u.state.steps < n → is_return statement.name ≡ true → MakesStep g c k u (make_step program parameters statement s) (cost program parameters statement s)
      by_call left back =
          let name = return_alone statement.name back in
          let does : DoesReturn k p.piece program.specials statement.args = subst (λ b. DoesStep b c.formats k p.piece program.specials statement.name statement.args) back p.does in
          let d = does g program parameters u begins in
          let within = λ (t : State) (is : step ≡ Goes t). stays left t (same_step name ∙ is) in
          subst (λ m. MakesStep g c k u (make_step program parameters statement s) m) (sym (same_cost name))
          (subst (λ e. MakesStep g c k u e most) (sym (same_step name)) (returned d.fuel (way g (k + 1) p.piece d.fuel 0 u) refl d.meets within))

  pub makes_step : (u : Micro) → IsValid program parameters.settings (at k u.state) → u.state.steps < n → MakesStep g c k u (make_step program parameters statement (at k u.state)) (cost program parameters statement (at k u.state))
  makes_step u valid left =
      let some : nat_lt u.state.steps n ≡ true = grind (arith, nat_tests, left) in
      by_test (is_return statement.name) (λ yes. by_call u some valid left yes) (λ no. by_itself u some valid left no)
