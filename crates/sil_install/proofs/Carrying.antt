-- The emulator carries out a run of micro operations.
use Rattle.std.proofs.Common.{◌≡◌, ℕ, zero, suc, ◌+◌, ◌<◌, ◌≤◌, List, [], ◌∷◌, ◌++◌, length, Option, Some, None, Bool, true, false, ◌&&◌, refl, sym, ap, subst, ◌∙◌, arith}
use Rattle.std.specs.Prelude.{ℤ, not, nat_lt, if◌then◌else◌, slice_get, option_and_then}
use Rattle.std.specs.Option.{option_map}
use Rattle.sil_base.specs.declared.limits.TheConstants.{MAX_STEPS}
use Rattle.layout_params.specs.Parameters.{Settings}
use Rattle.sil_model.specs.declared.end.End.{End}
use Rattle.sil_model.specs.declared.end.End.TheVariants as ends
use Rattle.sil_micro.specs.declared.op.Op.{Op}
use Rattle.sil_micro.specs.declared.op.Op.TheVariants.{Begin}
use Rattle.sil_micro.specs.declared.op.Target.TheVariants.{Op as Place, Statement}
use Rattle.sil_micro.specs.Codes.{MicroCode, place_of, return_of, setting_of}
use Rattle.sil_micro.specs.Forms.{all_ops}
use Rattle.sil_model.specs.Entries.{entered_statement}
use Rattle.sil_micro.specs.Operations.{Effect, On, To, ToReturn, Over, Stuck, act, begin_if, perform, weight}
use Rattle.sil_micro.specs.Pieces.{is_no_begin, is_quiet}
use Rattle.sil_micro.specs.MicroRuns as micro
use Rattle.sil_micro.specs.MicroRuns.{Outcome, At, IsStuck, and_on, at_op, at_return, at_statement, follow, met_by}
use Rattle.sil_micro.specs.MicroStates.{Setting, Micro}
use Rattle.sil_micro.proofs.Making.{by_test}
use Rattle.image_file.specs.Image.{Image}
use Rattle.rv_emulate.specs.EmulatorStates as emulator
use Rattle.rv_emulate.specs.EmulatorStates.{State}
use Rattle.rv_straight.specs.InstalledWays.{IsFree, IsBetween, Comes}
use Rattle.rv_straight.proofs.Ways.{comes_any, then_comes}
use Rattle.rv_operations.specs.Does.{Does, ComesFor, ComesBack, as_end}
use Rattle.rv_operations.specs.CodePlaces.{Places}
use Rattle.rv_operations.specs.StandsFor.{StandsFor, HoldsWords, HoldsTables}
use Rattle.rv_emulate.specs.EmulatorMemory.{Memory}
use Rattle.rv_emit.specs.Carries.{CarriesOps}
use Rattle.rv_emit.specs.Code.{last_place, op_place, place_from, places_of}
use Rattle.sil_install.proofs.Keeping.{Keeps, keeps, is_begin}

-- ---- the weight is no part of what a state stands for

stands_spent : (g : Setting) (u : Micro) (s : State) (spent : ℕ) → StandsFor g u s → StandsFor g (record u { spent = spent }) s
stands_spent g u s spent st = record {
  file = st.file;
  registers = st.registers;
  fit = st.fit;
  bound = st.bound;
  statement = st.statement;
  left = st.left;
  memory = st.memory;
  count = st.count;
  words = words_of st.words;
  tables = tables_of st.tables;
  tapes = st.tapes;
  failed = st.failed;
}
  where
    words_of : HoldsWords u s.memory → HoldsWords (record u { spent = spent }) s.memory
    words_of w = record { current = w.current; previous = w.previous; words = w.words; current_fits = w.current_fits; previous_fits = w.previous_fits; words_fit = w.words_fit }

    tables_of : HoldsTables u s.memory → HoldsTables (record u { spent = spent }) s.memory
    tables_of t = record { bytes = t.bytes; count = t.count; whole = t.whole }

-- ---- where an operation may write records the code may

loud_first : (a b : Bool) → not a ≡ true → not (a && b) ≡ true
loud_first true b h = absurd (cc)
loud_first false b h = refl

loud_rest : (a b : Bool) → not b ≡ true → not (a && b) ≡ true
loud_rest true b h = h
loud_rest false b h = refl

loud : (ops : List Op) (q : ℕ) (op : Op) → slice_get ops q ≡ Some op → not (is_quiet op) ≡ true → not (all_ops is_quiet ops) ≡ true
loud [] q op e h = absurd (cc)
loud (x ∷ ops) zero op e h = let same : x ≡ op = cc in loud_first (is_quiet x) (all_ops is_quiet ops) (ap (λ y. not (is_quiet y)) same ∙ h)
loud (x ∷ ops) (suc q) op e h = loud_rest (is_quiet x) (all_ops is_quiet ops) (loud ops q op e h)

pub comes_louder : (image : Image) (last : ℕ) (p prints : Bool) (most : ℕ) (s : State) (o : emulator.Outcome) → (p ≡ true → prints ≡ true) → Comes image last p most s o → Comes image last prints most s o
comes_louder image last false prints most s o h c = comes_any image last prints most s o c
comes_louder image last true prints most s o h c = subst (λ b. Comes image last b most s o) (sym (h refl)) c

-- ---- what an operation meets

meets_none : (g : Setting) (op : Op) (u : Micro) → is_no_begin op ≡ true → met_by g (Some op) u ≡ []
meets_none g (Begin k) u h = absurd (cc)
meets_none g _ u h = refl

meets_one : (g : Setting) (k : ℕ) (u : Micro) (rest : List ℕ) → nat_lt u.state.steps g.bound ≡ true → met_by g (Some (Begin k)) u ++ rest ≡ [] → ⊥
meets_one g k u rest some e =
    let one : k ∷ rest ≡ [] = sym (ap (λ b. (if b then k ∷ [] else []) ++ rest) some) ∙ e in
    absurd (cc)

-- the ends that a statement has by itself
abbrev pub Proper : ℕ → Outcome → Type 0
Proper count (micro.Ended (Some ends.Budget) u) = ⊥
Proper count (micro.Ended (Some (ends.Undefined k)) u) = k < count
Proper count _ = Unit {0}

module _ (image : Image) (settings : Settings) (c : MicroCode) (carries : CarriesOps image settings c) (n : ℕ) (small : n ≤ MAX_STEPS) where
  abbrev g : Setting
  g = setting_of c settings n

  abbrev places : Places
  places = places_of settings c

  abbrev last : ℕ
  last = last_place settings c

  abbrev prints : Bool
  prints = not (all_ops is_quiet c.ops)

  -- the run has come from s0 to the operation of a number, in as many instructions as were counted
  pub record Stands (s0 s : State) (q : ℕ) (u : Micro) : Type 0 where
    pub comes : Comes image last prints u.spent s0 (emulator.On s)
    pub pc : s.pc ≡ places.op q
    pub stands : StandsFor g u s
    pub known : u.state.statement ≤ length c.entries

  -- the run comes to this; of a run that is stuck nothing is said
  abbrev pub Arrives : State → Outcome → Type 0
  Arrives s0 (At q u) = (t : State) × Comes image last prints u.spent s0 (emulator.On t) × (t.pc ≡ places.op q) × StandsFor g u t
  Arrives s0 (micro.Ended (Some end) u) = Comes image last prints u.spent s0 (emulator.Ended (Some (as_end end)) u.state.tapes)
  Arrives s0 (micro.Ended None u) = Comes image last prints u.spent s0 (emulator.Ended None u.state.tapes)
  Arrives s0 IsStuck = Unit {0}

  abbrev pub Goes : ℕ → Type 0
  Goes count = (s0 s : State) (q : ℕ) (u : Micro) (o : Outcome) → Stands s0 s q u → micro.run g c count q u ≡ o → micro.met g c count q u ≡ [] → Proper (length c.entries) o → Arrives s0 o

  -- ---- on from what an operation does

  module _ (count : ℕ) (all : Goes count) (s0 s : State) (spent more number : ℕ) (o : Outcome) (before : Comes image last prints spent s0 (emulator.On s)) (between : IsBetween image last s) (known : number ≤ length c.entries) (proper : Proper (length c.entries) o) where
    abbrev Left : Outcome → Type 0
    Left from = (and_on from (micro.run g c count) ≡ o) × (micro.met_after from (micro.met g c count) ≡ [])

    -- in a state that has the weight and the statement's number
    record Kept (v : Micro) : Type 0 where
      weight_is : v.spent ≡ spent + more
      number_is : v.state.statement ≡ number

    comes_on : (p : Bool) (v : Micro) (t : emulator.Outcome) → Kept v → (p ≡ true → prints ≡ true) → Comes image last p more s t → Comes image last prints v.spent s0 t
    comes_on p v t kept louder c' =
        subst (λ k. Comes image last prints k s0 t) (sym kept.weight_is) (then_comes image last prints spent more s0 s t before between (comes_louder image last p prints more s t louder c'))

    quietly : false ≡ true → prints ≡ true
    quietly e = absurd (cc)

    at_op_on : (p : Bool) (r : ℕ) (v : Micro) → Kept v → (p ≡ true → prints ≡ true) → ComesFor image last g p more (places.op r) s v → Left (At r v) → Arrives s0 o
    at_op_on p r v kept louder (t, way, pc, st) left =
        all s0 t r v o (record { comes = comes_on p v (emulator.On t) kept louder way; pc = pc; stands = st; known = subst (λ k. k ≤ length c.entries) (sym kept.number_is) known }) left.0 left.1 proper

    ends_so : (end : End) (v : Micro) → Kept v → Comes image last false more s (emulator.Ended (Some (as_end end)) v.state.tapes) → Left (micro.Ended (Some end) v) → Arrives s0 o
    ends_so end v kept way left = subst (Arrives s0) left.0 (comes_on false v (emulator.Ended (Some (as_end end)) v.state.tapes) kept quietly way)

    ends_untold : (p : Bool) (v : Micro) → Kept v → (p ≡ true → prints ≡ true) → Comes image last p more s (emulator.Ended None v.state.tapes) → Left (micro.Ended None v) → Arrives s0 o
    ends_untold p v kept louder way left = subst (Arrives s0) left.0 (comes_on p v (emulator.Ended None v.state.tapes) kept louder way)

    to_statement : (to : Option ℕ) (v : Micro) → Kept v → ComesFor image last g false more (place_from settings c to) s v → Left (at_statement to v) → Arrives s0 o
    to_statement None v kept does left = subst (Arrives s0) left.0 tt
    to_statement (Some r) v kept does left = at_op_on false r v kept quietly does left

    to_return : (to : Option ℕ) (v : Micro) → Kept v → ComesBack image last g more s v (option_map (op_place settings c) to) → Left (at_return to v) → Arrives s0 o
    to_return None v kept does left = ends_so (ends.Undefined v.state.statement) v kept does left
    to_return (Some r) v kept does left = at_op_on false r v kept quietly does left

    by_entry : (k : Option ℕ) (v : Micro) → Kept v → ComesBack image last g more s v (option_and_then (λ k. option_map (op_place settings c) (return_of c k)) k) → Left (at_return (option_and_then (λ k. return_of c k) k) v) → Arrives s0 o
    by_entry None v kept does left = to_return None v kept does left
    by_entry (Some k) v kept does left = to_return (return_of c k) v kept does left

    onward : (p : Bool) (q : ℕ) (u : Micro) (e : Effect) → u.spent ≡ spent + more → u.state.statement ≡ number → (p ≡ true → prints ≡ true) → Keeps u e → Does image last g places p more (places.op (suc q)) s e → Left (follow c q e) → Arrives s0 o
    onward p q u (On v) es en louder kept does left =
        let next : suc q ≡ q + 1 = omega arith in
        at_op_on p (q + 1) v (record { weight_is = kept.0 ∙ es; number_is = kept.1 ∙ en }) louder (subst (λ r. ComesFor image last g p more (places.op r) s v) next does) left
    onward p q u (To (Place r) v) es en louder kept does left = at_op_on false r v (record { weight_is = kept.0 ∙ es; number_is = kept.1 ∙ en }) quietly does left
    onward p q u (To (Statement k) v) es en louder kept does left = to_statement (place_of c k) v (record { weight_is = kept.0 ∙ es; number_is = kept.1 ∙ en }) does left
    onward p q u (ToReturn entry v) es en louder kept does left = by_entry (entered_statement v.state.memory.limits.cell_size (length c.entries) entry) v (record { weight_is = kept.0 ∙ es; number_is = kept.1 ∙ en }) does left
    onward p q u (Over (Some end) v) es en louder kept does left = ends_so end v (record { weight_is = kept.0 ∙ es; number_is = kept.1 ∙ en }) does left
    onward p q u (Over None v) es en louder kept does left = ends_untold p v (record { weight_is = kept.0 ∙ es; number_is = kept.1 ∙ en }) louder does left
    onward p q u Stuck es en louder kept does left = subst (Arrives s0) left.0 tt

  -- ---- one operation more

  run_zero : (q : ℕ) (u : Micro) → At q u ≡ micro.run g c zero q u
  unfolding micro.run
  run_zero q u = refl

  pub run_more : (count q : ℕ) (u : Micro) (so : Option Op) → slice_get c.ops q ≡ so → micro.run g c (suc count) q u ≡ and_on (at_op g c so q u) (micro.run g c count)
  unfolding micro.run micro.step
  run_more count q u so e = ap (λ o. and_on (at_op g c o q u) (micro.run g c count)) e

  pub met_more : (count q : ℕ) (u : Micro) (so : Option Op) → slice_get c.ops q ≡ so → micro.met g c (suc count) q u ≡ met_by g so u ++ micro.met_after (at_op g c so q u) (micro.met g c count)
  unfolding micro.met micro.step
  met_more count q u so e = ap (λ o. met_by g o u ++ micro.met_after (at_op g c o q u) (micro.met g c count)) e

  plain : (count : ℕ) → Goes count → (s0 s : State) (q : ℕ) (u : Micro) (o : Outcome) (op : Op) → Stands s0 s q u → slice_get c.ops q ≡ Some op → is_no_begin op ≡ true → micro.run g c (suc count) q u ≡ o → micro.met g c (suc count) q u ≡ [] → Proper (length c.entries) o → Arrives s0 o
  plain count all s0 s q u o op st here plainly run meets proper =
      let v : Micro = record u { spent = u.spent + weight op } in
      let free = carries.between q op here plainly in
      let between : IsBetween image last s = subst (IsFree image last) (sym st.pc) free in
      let does = carries.does n q op v s small here (stands_spent g u s (u.spent + weight op) st.stands) st.pc (λ h. st.known) in
      let left_run : and_on (follow c q (act g op v)) (micro.run g c count) ≡ o = sym (run_more count q u (Some op) here) ∙ run in
      let left_met : micro.met_after (follow c q (act g op v)) (micro.met g c count) ≡ [] = sym (ap (λ xs. xs ++ micro.met_after (follow c q (act g op v)) (micro.met g c count)) (meets_none g op u plainly)) ∙ sym (met_more count q u (Some op) here) ∙ meets in
      onward count all s0 s u.spent (weight op) u.state.statement o st.comes between st.known proper (not (is_quiet op)) q v (act g op v) refl refl (loud c.ops q op here) (keeps g op v plainly) does (left_run, left_met)

  no_begin : (count : ℕ) (q k : ℕ) (u : Micro) (o : Outcome) → slice_get c.ops q ≡ Some (Begin k) → micro.run g c (suc count) q u ≡ o → micro.met g c (suc count) q u ≡ [] → Proper (length c.entries) o → ⊥
  no_begin count q k u o here run meets proper =
      let rest = micro.met_after (at_op g c (Some (Begin k)) q u) (micro.met g c count) in
      by_test (nat_lt u.state.steps n)
      (λ some. meets_one g k u rest some (sym (met_more count q u (Some (Begin k)) here) ∙ meets))
      (λ none. subst (Proper (length c.entries)) (sym run ∙ run_more count q u (Some (Begin k)) here ∙ ap (λ b. and_on (follow c q (begin_if b k (record u { spent = u.spent + 28 }))) (micro.run g c count)) none) proper)

  one_more : (count : ℕ) → Goes count → (s0 s : State) (q : ℕ) (u : Micro) (o : Outcome) (so : Option Op) → Stands s0 s q u → slice_get c.ops q ≡ so → micro.run g c (suc count) q u ≡ o → micro.met g c (suc count) q u ≡ [] → Proper (length c.entries) o → Arrives s0 o
  one_more count all s0 s q u o None st here run meets proper =
      let past : length c.entries < length c.entries = subst (Proper (length c.entries)) (sym run ∙ run_more count q u None here) proper in
      absurd (omega arith)
  one_more count all s0 s q u o (Some op) st here run meets proper =
      by_test (is_no_begin op)
      (λ yes. plain count all s0 s q u o op st here yes run meets proper)
      (λ not_so.
      let b = is_begin op not_so in
      absurd (no_begin count q b.0 u o (here ∙ ap (λ x. Some x) b.1) run meets proper))

  -- a run of any length that meets no statement more
  pub goes : (count : ℕ) → Goes count
  goes zero = λ s0 s q u o st run meets proper. subst (Arrives s0) (run_zero q u ∙ run) (s, st.comes, st.pc, st.stands)
  goes (suc count) = λ s0 s q u o st run meets proper. one_more count (goes count) s0 s q u o (slice_get c.ops q) st refl run meets proper
