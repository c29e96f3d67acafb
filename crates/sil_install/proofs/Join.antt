-- An image that carries out the operations of a program's expansion carries out the program.
use Rattle.std.proofs.Common.{◌≡◌, ◌≢◌, ℕ, zero, suc, ◌+◌, ◌^◌, ◌<◌, ◌≤◌, List, [], ◌∷◌, ◌++◌, length, Option, Some, None, Bool, true, false, ◌==◌, refl, sym, ap, subst, ◌∙◌, arith}
use Rattle.std.proofs.lemmas.Bool.Decides.{nat_tests}
use Rattle.std.proofs.lemmas.Option.{slice_get_within, same_Some}
use Rattle.std.specs.Prelude.{not, nat_lt, if◌then◌else◌, option_map, slice_get, slice_index}
use Rattle.sil_base.specs.declared.limits.TheConstants.{MAX_STEPS, STATEMENT_INSTRUCTIONS}
use Rattle.unit_io.specs.Tapes.{Tapes}
use Rattle.layout_params.specs.Parameters.{Settings, Parameters}
use Rattle.sil_model.specs.declared.end.End.{End}
use Rattle.sil_model.specs.declared.end.End.TheVariants as ends
use Rattle.sil_model.specs.declared.program.Flow.TheVariants.{Next, To, Exit, Trap}
use Rattle.sil_model.specs.declared.program.Program.{Program}
use Rattle.sil_model.specs.declared.program.Statement.{Statement}
use Rattle.sil_runs.specs.Costs.{cost}
use Rattle.sil_model.specs.Effects.{Effect}
use Rattle.sil_model.specs.Effects as effects
use Rattle.sil_runs.specs.Machine.{make_step}
use Rattle.sil_model.specs.Settling.{settle}
use Rattle.sil_model.specs.Sites.{site_of}
use Rattle.sil_model.specs.Start.{first_state}
use Rattle.sil_model.specs.States as machine
use Rattle.sil_model.specs.States.{Step, Goes, Ends}
use Rattle.sil_runs.specs.Table.{clause}
use Rattle.sil_model.specs.Valid.{IsValid}
use Rattle.sil_model.specs.WellFormed.{IsWellFormed}
use Rattle.sil_micro.specs.declared.op.Op.TheVariants.{Begin}
use Rattle.sil_micro.specs.Codes.{MicroCode, entry_of, place_of, setting_of}
use Rattle.sil_micro.specs.Expands.{at}
use Rattle.sil_micro.specs.Forms.{all_ops}
use Rattle.sil_micro.specs.Operations.{begin_if}
use Rattle.sil_micro.specs.Pieces.{is_quiet}
use Rattle.sil_micro.specs.MicroRuns as micro
use Rattle.sil_micro.specs.MicroRuns.{Outcome, At, IsStuck, and_on, at_op, follow, met_by}
use Rattle.sil_micro.specs.MicroStates.{Setting, Micro}
use Rattle.sil_micro.proofs.Making.{by_test}
use Rattle.macro_expand.specs.Expanded.{IsExpansion}
use Rattle.macro_expand.specs.Steps.{Makes as MakesMicro, MakesStep, StepsWithinCosts}
use Rattle.image_file.specs.Image.{Image}
use Rattle.rv_emulate.specs.EmulatorRuns.{entry_at}
use Rattle.rv_emulate.specs.EmulatorStates as emulator
use Rattle.rv_emulate.specs.EmulatorStates.{State, start}
use Rattle.rv_straight.specs.InstalledWays.{Comes}
use Rattle.rv_straight.proofs.Ways.{comes_any, comes_within}
use Rattle.rv_operations.specs.Does.{Does, as_end}
use Rattle.rv_operations.specs.CodePlaces.{Places}
use Rattle.rv_emit.specs.Carries.{CarriesOps}
use Rattle.rv_emit.specs.Code.{last_place, place_from, places_of}
use Rattle.rv_emit.specs.Parts.{IsImageOf}
use Rattle.rv_emit.specs.Represents.{Represents}
use Rattle.rv_emit.specs.StatementPlaces.{place}
use Rattle.sil_install.specs.Ways.{ComesTo, EndsAs, Makes, CarriesOut}
use Rattle.sil_install.proofs.Carrying.{Proper, Arrives, goes, run_more, met_more}
use Rattle.sil_install.proofs.First.{regions, represents as first_represents}
use Rattle.sil_install.proofs.Slots.{kept}
use Rattle.sil_install.proofs.Standing.{stood, file, stands, represents}

-- ---- ends that a step has by itself

abbrev IsOwn : ℕ → Step → Type 0
IsOwn count (Goes m) = Unit {0}
IsOwn count (Ends None tapes) = Unit {0}
IsOwn count (Ends (Some ends.Budget) tapes) = ⊥
IsOwn count (Ends (Some (ends.Undefined k)) tapes) = k < count
IsOwn count (Ends (Some _) tapes) = Unit {0}

own : (count : ℕ) (m : machine.State) (e : Effect) → m.statement < count → IsOwn count (settle m e)
own count m None lt = lt
own count m (Some (effects.On Next, t)) lt = tt
own count m (Some (effects.On (To k), t)) lt = tt
own count m (Some (effects.On (Exit code), t)) lt = tt
own count m (Some (effects.On Trap, t)) lt = tt
own count m (Some (effects.Undefined, t)) lt = lt
own count m (Some (effects.UnitFault unit, t)) lt = tt
own count m (Some (effects.Untold, t)) lt = tt

own_step : (count : ℕ) (program : Program) (parameters : Parameters) (st : Statement) (m : machine.State) → m.statement < count → IsOwn count (make_step program parameters st m)
unfolding make_step
own_step count program parameters st m lt = own count m (clause st.name (site_of program parameters m.statement st) m) lt

proper_end : (count : ℕ) (end : Option End) (u : Micro) (tapes : Tapes) → IsOwn count (Ends end tapes) → Proper count (micro.Ended end u)
proper_end count None u tapes h = tt
proper_end count (Some (ends.Exit code)) u tapes h = tt
proper_end count (Some (ends.Trap k)) u tapes h = tt
proper_end count (Some (ends.Undefined k)) u tapes h = h
proper_end count (Some (ends.UnitFault k unit)) u tapes h = tt
proper_end count (Some ends.Budget) u tapes h = h
proper_end count (Some ends.Memory) u tapes h = tt

proper : (count : ℕ) (c : MicroCode) (o : Outcome) (w : Step) (most : ℕ) → MakesMicro c o w most → IsOwn count w → Proper count o
proper count c (At q u) w most makes h = tt
proper count c (micro.Ended end u) (Ends end' tapes) most makes h = proper_end count end u tapes (subst (λ e. IsOwn count (Ends e tapes)) (sym makes.0) h)
proper count c (micro.Ended end u) (Goes m) most makes h = absurd makes
proper count c IsStuck w most makes h = tt

module _ (program : Program) (parameters : Parameters) (c : MicroCode) (image : Image) (x : IsExpansion program c) (steps : StepsWithinCosts program parameters c) (of : IsImageOf image program parameters.settings) (carries : CarriesOps image parameters.settings c) (good : IsWellFormed program parameters.settings) where
  abbrev settings : Settings
  settings = parameters.settings

  abbrev places : Places
  places = places_of settings c

  abbrev last : ℕ
  last = last_place settings c

  abbrev prints : Bool
  prints = not (all_ops is_quiet c.ops)

  -- ---- the places of statements

  entered : (k q : ℕ) → k < length program.statements → entry_of c k ≡ Some q → place_of c k ≡ Some q
  entered k q lt e =
      by_test (k == length c.entries)
      (λ yes. let same : k ≡ length c.entries = grind (arith, nat_tests, yes) in absurd (omega (arith, same, lt, x.statements)))
      (λ no. ap (λ b. if b then Some (length c.ops) else entry_of c k) no ∙ e)

  ends_at : (k : ℕ) → k ≡ length c.entries → place_of c k ≡ Some (length c.ops)
  ends_at k e = let yes : (k == length c.entries) ≡ true = grind (arith, nat_tests, e) in ap (λ b. if b then Some (length c.ops) else entry_of c k) yes

  -- the first operation of a statement is its Begin
  record Begins (k : ℕ) : Type 0 where
    q : ℕ
    there : place_of c k ≡ Some q
    begins : slice_get c.ops q ≡ Some (Begin k)

  begins_at : (k : ℕ) → k < length program.statements → Begins k
  begins_at k lt =
      let e = x.whole.entries k (omega (arith, lt, x.statements)) in
      record { q = e.0; there = entered k e.0 lt e.1; begins = e.2 }

  entries : (k : ℕ) → k < length program.statements → entry_at image.statements (place image last k) ≡ Some k
  entries k lt =
      let b = begins_at k lt in
      ap (λ p. entry_at image.statements p) (sym (carries.places k b.q b.there))
      ∙ ap (λ o. entry_at image.statements (place_from settings c o)) (sym b.there)
      ∙ carries.entries k (omega (arith, lt, x.statements))

  module _ (n : ℕ) (small : n ≤ MAX_STEPS) where
    abbrev g : Setting
    g = setting_of c settings n

    module _ (m : machine.State) (s : State) (valid : IsValid program settings m) (rep : Represents settings n m s) (pc : s.pc ≡ place image last m.statement) (lt : m.statement < length program.statements) where
      abbrev u : Micro
      u = stood m s

      abbrev k : ℕ
      k = m.statement

      abbrev b : Begins k
      b = begins_at k lt

      here : s.pc ≡ places.op b.q
      here = pc ∙ sym (carries.places k b.q b.there)

      does : Does image last g places false 28 (places.op (suc b.q)) s (begin_if (nat_lt m.steps n) k u)
      does = carries.does n b.q (Begin k) u s small b.begins (stands program settings c n good x.static_cells m s valid rep) here (λ h. absurd (cc))

      abbrev Reached : Outcome → Type 0
      Reached o = Arrives image settings c carries n small s o

      -- ---- with no steps left

      spent : m.steps ≡ n → EndsAs image last false STATEMENT_INSTRUCTIONS s (Some ends.Budget) m.tapes
      spent e =
          let none : nat_lt m.steps n ≡ false = grind (arith, nat_tests, e) in
          let way = subst (λ e. Does image last g places false 28 (places.op (suc b.q)) s (begin_if e k u)) none does in
          comes_within image last false 28 2000 s (emulator.Ended (Some (as_end ends.Budget)) m.tapes) way (omega arith)

      -- ---- a step

      met_zero : (q : ℕ) → micro.met g c zero q u ≡ []
      unfolding micro.met
      met_zero q = refl

      -- the run through the statement's operations
      through : (count : ℕ) (o : Outcome) → nat_lt m.steps n ≡ true → micro.run g c count b.q u ≡ o → micro.met g c count b.q u ≡ k ∷ [] → Proper (length c.entries) o → Reached o
      through zero o some run meets own_end = let none : [] ≡ k ∷ [] = sym (met_zero b.q) ∙ meets in absurd (cc)
      through (suc count) o some run meets own_end =
          let v : Micro = record u { state = record u.state { statement = k; steps = m.steps + 1 }; spent = 28 } in
          let w = subst (λ e. Does image last g places false 28 (places.op (suc b.q)) s (begin_if e k u)) some does in
          let first : and_on (At (b.q + 1) v) (micro.run g c count) ≡ o =
          sym (ap (λ e. and_on (follow c b.q (begin_if e k (record u { spent = u.spent + 28 }))) (micro.run g c count)) some) ∙ sym (run_more image settings c carries n small count b.q u (Some (Begin k)) b.begins) ∙ run in
          let listed : k ∷ micro.met g c count (b.q + 1) v ≡ k ∷ [] =
          sym (ap (λ e. (if e then k ∷ [] else []) ++ micro.met_after (follow c b.q (begin_if e k (record u { spent = u.spent + 28 }))) (micro.met g c count)) some) ∙ sym (met_more image settings c carries n small count b.q u (Some (Begin k)) b.begins) ∙ meets in
          let rest : micro.met g c count (b.q + 1) v ≡ [] = cc in
          let next : suc b.q ≡ b.q + 1 = omega arith in
          goes image settings c carries n small count s w.0 (b.q + 1) v o
          (record { comes = comes_any image last prints 28 s (emulator.On w.0) w.1; pc = w.2 ∙ ap places.op next; stands = w.3; known = omega (arith, lt, x.statements) })
          first rest own_end

      -- what the run comes to is what the step makes
      made : (o : Outcome) (w : Step) (most : ℕ) → Reached o → MakesMicro c o w most → IsOwn (length c.entries) w → Makes image settings last n prints most s w
      made (At q v) (Goes m') most (t, way, there, st) (entry, is, le) h =
          let slot : slice_index t.registers 0 < 2 ^ 64 = omega (arith, kept image (suc way.more) s t way.comes, rep.small 0) in
          (t, comes_within image last prints v.spent most s (emulator.On t) way le, there ∙ carries.places m'.statement q entry, represents program settings c n good x.static_cells v m' t st is slot)
      made (micro.Ended (Some end) v) (Ends end' tapes) most way (same, kept_tapes, le) h =
          subst (λ e. Comes image last prints most s (emulator.Ended (option_map as_end e) tapes)) same
          (subst (λ ts. Comes image last prints most s (emulator.Ended (Some (as_end end)) ts)) kept_tapes (comes_within image last prints v.spent most s (emulator.Ended (Some (as_end end)) v.state.tapes) way le))
      made (micro.Ended None v) (Ends end' tapes) most way (same, kept_tapes, le) h =
          subst (λ e. Comes image last prints most s (emulator.Ended (option_map as_end e) tapes)) same
          (subst (λ ts. Comes image last prints most s (emulator.Ended None ts)) kept_tapes (comes_within image last prints v.spent most s (emulator.Ended None v.state.tapes) way le))
      made (At q v) (Ends end tapes) most way makes h = absurd makes
      made (micro.Ended end v) (Goes m') most way makes h = absurd makes
      made IsStuck w most way makes h = absurd makes

      and_zero : (o : Outcome) → and_on o (micro.run g c 0) ≡ o
      unfolding micro.run
      and_zero (At q v) = refl
      and_zero (micro.Ended end v) = refl
      and_zero IsStuck = refl

      after_zero : (o : Outcome) → micro.met_after o (micro.met g c 0) ≡ []
      unfolding micro.met
      after_zero (At q v) = refl
      after_zero (micro.Ended end v) = refl
      after_zero IsStuck = refl

      step_made : (w : Step) (most : ℕ) → nat_lt m.steps n ≡ true → IsOwn (length c.entries) w → MakesStep g c k u w most → Makes image settings last n prints most s w
      step_made w most some h p =
          let same : p.place ≡ b.q = same_Some p.place b.q (sym p.entered ∙ b.there) in
          let none : p.count ≡ p.count + 0 = omega arith in
          let run : micro.run g c p.count b.q u ≡ p.outcome = ap (λ q. micro.run g c p.count q u) (sym same) ∙ ap (λ j. micro.run g c j p.place u) none ∙ p.leads.run 0 ∙ and_zero p.outcome in
          let meets : micro.met g c p.count b.q u ≡ k ∷ [] = ap (λ q. micro.met g c p.count q u) (sym same) ∙ ap (λ j. micro.met g c j p.place u) none ∙ p.leads.met 0 ∙ ap (λ l. (k ∷ []) ++ l) (after_zero p.outcome) in
          made p.outcome w most (through p.count p.outcome some run meets (proper (length c.entries) c p.outcome w most p.makes h)) p.makes h

    statement : (m : machine.State) (s : State) (st : Statement) → slice_get program.statements m.statement ≡ Some st → IsValid program settings m → m.steps < n → s.pc ≡ place image last m.statement → Represents settings n m s → Makes image settings last n prints (cost program parameters st m) s (make_step program parameters st m)
    statement m s st is valid some pc rep =
        let lt = slice_get_within program.statements m.statement st is in
        let left : nat_lt m.steps n ≡ true = grind (arith, nat_tests, some) in
        step_made m s valid rep pc lt (make_step program parameters st m) (cost program parameters st m) left (own_step (length c.entries) program parameters st m (omega (arith, lt, x.statements)))
        (steps n small m.statement st (stood m s) is valid some)

    past : (m : machine.State) (s : State) → m.statement ≡ length program.statements → IsValid program settings m → s.pc ≡ last → Represents settings n m s → EndsAs image last false STATEMENT_INSTRUCTIONS s (Some (ends.Undefined m.statement)) m.tapes
    past m s all valid pc rep =
        let same : length c.entries ≡ m.statement = x.statements ∙ sym all in
        subst (λ ts. Comes image last false STATEMENT_INSTRUCTIONS s (emulator.Ended (Some (as_end (ends.Undefined m.statement))) ts)) rep.tapes
        (subst (λ k. Comes image last false STATEMENT_INSTRUCTIONS s (emulator.Ended (Some (as_end (ends.Undefined k))) s.tapes)) same
        (carries.past s (file program settings c n good x.static_cells m s valid rep) pc))

    -- ---- the start

    first : (q : ℕ) × (place_of c 0 ≡ Some q)
    first =
        by_test (nat_lt 0 (length c.entries))
        (λ yes. let b = begins_at 0 (grind (arith, nat_tests, yes, x.statements)) in (b.q, b.there))
        (λ no. (length c.ops, ends_at 0 (grind (arith, nat_tests, no))))

    begins : (tapes : Tapes) → ComesTo image settings last n false STATEMENT_INSTRUCTIONS (start image tapes n) (first_state program settings tapes)
    unfolding first_state
    begins tapes =
        let way = carries.begins tapes n small (regions program settings image of good) in
        let there : place_from settings c (place_of c 0) ≡ place image last 0 = ap (λ o. place_from settings c o) first.1 ∙ carries.places 0 first.0 first.1 in
        (way.state, way.comes, way.there ∙ there, first_represents program settings image of good c x.static_cells tapes n last (place_from settings c (place_of c 0)) way)

  pub carries_out : CarriesOut image program parameters last prints
  carries_out = record {
    entries = entries;
    beyond = λ k le. carries.beyond k (omega (arith, le, x.statements));
    last_apart = carries.last_apart;
    first_apart = carries.first_apart;
    begins = λ tapes n small. begins n small tapes;
    statement = λ n m s st small is valid some pc rep. statement n small m s st is valid some pc rep;
    bound = λ n m s small lt valid none pc rep. spent n small m s valid rep pc lt none;
    past = λ n m s small all valid pc rep. past n small m s all valid pc rep;
  }
