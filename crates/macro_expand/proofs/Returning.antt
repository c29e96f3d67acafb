-- A return goes on in the return part of its call.
use Rattle.std.proofs.Common.{◌≡◌, ℕ, ◌+◌, ◌<◌, ◌≤◌, inl, inr, List, ◌++◌, length, Some, None, true, false, refl, sym, ap, ◌∙◌, subst, arith, append-nil}
use Rattle.std.proofs.lemmas.Bool.Decides.{nat_tests}
use Rattle.std.proofs.lemmas.Option.{slice_get_cases}
use Rattle.std.specs.Prelude.{ℤ, pos, negsuc, slice_get, if◌then◌else◌}
use Rattle.layout_params.specs.Parameters.{Parameters}
use Rattle.sil_model.specs.declared.end.End.TheVariants as ends
use Rattle.sil_model.specs.declared.program.Program.{Program}
use Rattle.sil_model.specs.declared.program.Statement.{Statement}
use Rattle.sil_model.specs.Access.{◌>>=◌}
use Rattle.flow_clauses.specs.CallClauses.{call_at, if_rcall, is_rcall, rrturn, statement_of}
use Rattle.sil_model.specs.Settling.{settle}
use Rattle.sil_model.specs.Memory.{IsMemory}
use Rattle.sil_model.specs.Sites.{Site}
use Rattle.sil_model.specs.States.{State, Step, Goes}
use Rattle.sil_model.specs.Valid.{IsValid}
use Rattle.sil_model.specs.WellFormed.{IsWellFormed}
use Rattle.sil_micro.specs.Codes.{MicroCode, return_of}
use Rattle.sil_micro.specs.Expands.{Meets, at, site_at}
use Rattle.sil_micro.specs.Laws.{LawOfMeeting, LawOnWays, Leads}
use Rattle.sil_model.specs.Entries.{entered_statement}
use Rattle.sil_micro.specs.MicroRuns.{Ended, at_return, return_place}
use Rattle.sil_micro.specs.MicroStates.{Setting, Micro}
use Rattle.sil_micro.specs.MicroWays.{way}
use Rattle.sil_micro.proofs.Making.{by_option, by_test}
use Rattle.exp_calls.specs.CallHalves.{HandsOver, answer, numbered}
use Rattle.exp_calls.proofs.ReturnClause.{no_call, no_statement, the_call}
use Rattle.macro_expand.specs.Expanded.{Answers, HasPiece, HasReturns, IsExpansion}
use Rattle.macro_expand.specs.Steps.{Makes}
use Rattle.macro_expand.proofs.Entering as entering
use Rattle.macro_expand.proofs.Entering.{Arrives, leads_then, makes_within}

entered_below : (size count : ℕ) (n : ℤ) (k : ℕ) → entered_statement size count n ≡ Some k → k < count
unfolding entered_statement
entered_below size count (pos n) k e = grind (arith, nat_tests)
entered_below size count (negsuc n) k e = absurd (cc)

none_called : (site : Site) (k : ℕ) (statement : Statement) → slice_get site.program.statements k ≡ Some statement → is_rcall statement.name ≡ false → call_at site k ≡ None
unfolding call_at
none_called site k statement is other = ap (λ o. o >>= if_rcall) is ∙ ap (λ b. if b then Some statement else None) other

is_called : (site : Site) (k : ℕ) (statement : Statement) → slice_get site.program.statements k ≡ Some statement → is_rcall statement.name ≡ true → call_at site k ≡ Some statement
unfolding call_at
is_called site k statement is call = ap (λ o. o >>= if_rcall) is ∙ ap (λ b. if b then Some statement else None) call

module _ (program : Program) (parameters : Parameters) (c : MicroCode) (x : IsExpansion program c) (good : IsWellFormed program parameters.settings) (on_ways : LawOnWays) (meeting : LawOfMeeting) (n : ℕ) where
  abbrev g : Setting
  g = entering.g program parameters c x good on_ways meeting n

  module _ (k : ℕ) (statement : Statement) (u : Micro) (valid : IsValid program parameters.settings (at k u.state)) where
    abbrev site : Site
    site = site_at program parameters k statement.args

    abbrev s : State
    s = at k u.state

    abbrev step : Step
    step = settle s (rrturn site s)

    module _ (within : (t : State) → step ≡ Goes t → t.statement ≤ length program.statements) (entry : ℤ) (v : Micro) (h : HandsOver site s entry v) (first : List ℕ) (place count : ℕ) (leads : Leads g c count place u (at_return (return_place c v entry) v) first) where
      abbrev IsMade : Type 0
      IsMade = Arrives g c place u first step 2000

      same_memory : v.state.memory ≡ s.memory
      same_memory = ap (λ t. t.memory) h.state

      same_statement : entered_statement v.state.memory.limits.cell_size (length c.entries) entry ≡ statement_of site entry
      same_statement =
          ap (λ m. entered_statement m.limits.cell_size (length c.entries) entry) same_memory
          ∙ ap (λ l. entered_statement l.cell_size (length c.entries) entry) valid.limits
          ∙ ap (λ i. entered_statement parameters.settings.sizes.descr i entry) x.statements

      -- no return part is there
      ends_here : return_place c v entry ≡ None → rrturn site s ≡ None → IsMade
      ends_here no_place none = record {
        count = count;
        outcome = Ended (Some (ends.Undefined v.state.statement)) v;
        leads = subst (λ o. Leads g c count place u (at_return o v) first) no_place leads;
        makes = subst (λ e. Makes c (Ended (Some (ends.Undefined v.state.statement)) v) (settle s e) 2000) (sym none)
            (ap (λ t. Some (ends.Undefined t.statement)) h.state, ap (λ t. t.tapes) h.state, omega (arith, h.light));
      }

      no_entry : statement_of site entry ≡ None → IsMade
      no_entry none = ends_here (ap (λ o. o >>= (λ j. return_of c j)) (same_statement ∙ none)) (no_statement site s _ h.number.0 h.saved entry h.place h.number.1 h.read h.entered none)

      module _ (j : ℕ) (callee : Statement) (is : statement_of site entry ≡ Some j) (there : slice_get program.statements j ≡ Some callee) where
        abbrev p : HasPiece c program.specials j callee
        p = x.each j callee there

        at_callee : return_place c v entry ≡ return_of c j
        at_callee = ap (λ o. o >>= (λ i. return_of c i)) (same_statement ∙ is)

        no_rcall : is_rcall callee.name ≡ false → IsMade
        no_rcall other = ends_here (at_callee ∙ subst (λ b. HasReturns b c j p.base p.piece callee.args) other p.returns) (no_call site s _ h.number.0 h.saved entry h.place h.number.1 h.read h.entered j is (none_called site j callee there other))

        an_rcall : is_rcall callee.name ≡ true → IsMade
        an_rcall call =
            let a : Answers c j p.base p.piece callee.args = subst (λ b. HasReturns b c j p.base p.piece callee.args) call p.returns in
            let d = a.does.does g v (subst (λ m. IsMemory m) (sym same_memory) valid.memory) in
            let args = callee.args in
            let same : answer args j v.registers.r1 v.registers.r2 v.registers.r3 v.state ≡ step =
            ap (λ i. answer args j v.registers.r1 v.registers.r2 i v.state) h.number.2
            ∙ ap (λ t. answer args j v.registers.r1 v.registers.r2 (numbered h.number.0) t) h.state
            ∙ sym (the_call site s _ h.number.0 h.saved entry h.place h.number.1 h.read h.entered j callee v.registers.r1 v.registers.r2 is (is_called site j callee there call) refl h.top) in
            let back = entering.arrives program parameters c x good on_ways meeting n j callee there d.fuel a.part v (way g (j + 1) p.piece d.fuel a.part v) step (v.spent + 1200) a.does.within refl
            (subst (λ t. Meets (way g (j + 1) p.piece d.fuel a.part v) t (v.spent + 1200)) same d.meets) within in
            let none = entering.met_later program parameters c x good on_ways meeting n j callee there d.fuel a.part v a.does.behind in
            let goes = leads_then g c count back.count place (p.base + a.part) u v back.outcome first _ (subst (λ o. Leads g c count place u (at_return o v) first) (at_callee ∙ a.place) leads) back.leads in
            record {
              count = count + back.count;
              outcome = back.outcome;
              leads = subst (λ l. Leads g c (count + back.count) place u back.outcome l) (ap (λ l. first ++ l) none ∙ append-nil first) goes;
              makes = makes_within c back.outcome step (v.spent + 1200) 2000 (omega (arith, h.light)) back.makes;
            }

        with_callee : IsMade
        with_callee = by_test (is_rcall callee.name) an_rcall no_rcall

      pub goes_back : IsMade
      goes_back = by_option (statement_of site entry) no_entry (λ j is.
          let below : j < length c.entries = entered_below v.state.memory.limits.cell_size (length c.entries) entry j (same_statement ∙ is) in
          elim (slice_get_cases program.statements j).1 as (λ cases. IsMade) [
            | inl found ↦ with_callee j found.0 is found.2
            | inr past ↦ absurd (omega (arith, past.0, below, x.statements))
          ])
