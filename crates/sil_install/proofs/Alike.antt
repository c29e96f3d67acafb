-- An image whose code carries out each statement behaves as the program.
use Rattle.std.proofs.Common.{◌≡◌, ◌≢◌, ℕ, zero, suc, ◌+◌, ◌-◌, ◌*◌, ◌^◌, ◌<◌, ◌≤◌, inl, inr, List, [], ◌∷◌, ◌++◌, length, Option, Some, None, Bool, false, refl, sym, ap, subst, ◌∙◌, arith}
use Rattle.std.proofs.lemmas.Bool.{cases_lt}
use Rattle.std.proofs.lemmas.Option.{slice_get_within, get_or_from_slice_get}
use Rattle.std.specs.Prelude.{slice_get, option_map}
use Rattle.unit_io.specs.Tapes.{Tapes}
use Rattle.layout_params.specs.Parameters.{Settings, Parameters}
use Rattle.sil_model.specs.declared.end.End.{End}
use Rattle.sil_model.specs.declared.end.End.TheVariants.{Exit, Trap, Undefined, UnitFault, Budget, Memory}
use Rattle.sil_model.specs.declared.program.Program.{Program}
use Rattle.sil_model.specs.declared.program.Statement.{Statement}
use Rattle.sil_model.specs.States as machine
use Rattle.sil_model.specs.States.{Step, Goes, Ends}
use Rattle.sil_model.specs.Start.{first_state}
use Rattle.sil_runs.specs.Machine as abstract
use Rattle.sil_runs.specs.Machine.{make_step, step, after, after_step, machine as machine_run, with_statement, ended, meet}
use Rattle.sil_model.specs.Settling.{ends_with}
use Rattle.sil_runs.specs.Costs.{cost}
use Rattle.sil_model.specs.Valid.{IsValid}
use Rattle.sil_runs.specs.StepLaws.{IsSteady}
use Rattle.sil_model.specs.Prints.{IsSilent}
use Rattle.image_file.specs.Image.{Image}
use Rattle.rv_emit.specs.Parts.{IsImageOf}
use Rattle.rv_emulate.specs.declared.end.CpuEnd.{CpuEnd}
use Rattle.rv_emulate.specs.declared.end.CpuEnd.TheVariants.{Fetch}
use Rattle.rv_emulate.specs.EmulatorStates.{State, Outcome, On, Ended, steps_left, start}
use Rattle.rv_emulate.specs.EmulatorRuns.{run, met, met_now, met_with, listed, entry_at, emulation, run_under, end_of, tapes_of, budget}
use Rattle.rv_emulate.specs.AlongRuns.{Calls}
use Rattle.rv_emulate.proofs.RunLaws.{run-add, run-end, met-add, met-end, met_way, along_at, later_at}
use Rattle.rv_emit.specs.Represents.{Represents}
use Rattle.rv_straight.specs.InstalledWays.{IsBetween, Permits, Comes}
use Rattle.rv_operations.specs.Does.{as_end}
use Rattle.rv_emit.specs.StatementPlaces.{place}
use Rattle.sil_install.specs.Ways.{ComesTo, EndsAs, Makes, CarriesOut}
use Rattle.sil_install.specs.Installed.{SameRun, RunsAlike, Stops, Arrives, IsEnd, Within}
use Rattle.sil_install.specs.Law.{LawOfInstalledImages}
use Rattle.sil_install.proofs.Counts.{less, enough, after_start, at_start, slot_large, slot_of, cost_fits}

none_past : (xs : List Statement) (i : ℕ) → slice_get xs i ≡ None → length xs ≤ i
none_past [] i e = omega arith
none_past (x ∷ xs) zero e = absurd cc
none_past (x ∷ xs) (suc i) e = let h = none_past xs i e in omega arith

some_statement : (xs : List Statement) (i : ℕ) → i < length xs → (x : Statement) × (slice_get xs i ≡ Some x)
some_statement [] i h = absurd (omega arith)
some_statement (x ∷ xs) zero h = (x, refl)
some_statement (x ∷ xs) (suc i) h = some_statement xs i (omega arith)

module _ (image : Image) (program : Program) (parameters : Parameters) (last : ℕ) (steady : IsSteady program parameters) (of : IsImageOf image program parameters.settings) (prints : Bool) (carries : CarriesOut image program parameters last prints) (n : ℕ) (small : n ≤ 2 ^ 40) where
  abbrev settings : Settings
  settings = parameters.settings

  abbrev slot : ℕ
  slot = slot_of image

  -- a state at the place of the machine's statement, which stands for the machine's state
  record Stands (m : machine.State) (s : State) : Type 0 where
    valid : IsValid program settings m
    pc : s.pc ≡ place image last m.statement
    stands : Represents settings n m s

  -- ---- ways

  -- a way to t, and k instructions more
  way_run : (q : Bool) (most : ℕ) (s t : State) (c : Comes image last q most s (On t)) (b : ℕ) → suc c.more ≤ b → (run image b s ≡ run image (b - suc c.more) t) × (met image b s ≡ listed (met_now image s) ++ met image (b - suc c.more) t)
  way_run q most s t c b le =
      let e : b ≡ suc c.more + (b - suc c.more) = omega arith in
      let r = run-add image (suc c.more) (b - suc c.more) s t c.comes in
      let w = met-add image (suc c.more) (b - suc c.more) s t c.comes in
      let h = met_way image (IsBetween image last) (λ v h. h.0) c.more s c.between in
      (ap (λ j. run image j s) e ∙ r, ap (λ j. met image j s) e ∙ w ∙ ap (λ xs. xs ++ met image (b - suc c.more) t) h)

  way_end : (q : Bool) (most : ℕ) (s : State) (x : Option CpuEnd) (tapes : Tapes) (c : Comes image last q most s (Ended x tapes)) (b : ℕ) → suc c.more ≤ b → (run image b s ≡ Ended x tapes) × (met image b s ≡ listed (met_now image s))
  way_end q most s x tapes c b le =
      let e : b ≡ suc c.more + (b - suc c.more) = omega arith in
      let r = run-end image (suc c.more) (b - suc c.more) s x tapes c.comes in
      let w = met-end image (suc c.more) (b - suc c.more) s x tapes c.comes in
      let h = met_way image (IsBetween image last) (λ v h. h.0) c.more s c.between in
      (ap (λ j. run image j s) e ∙ r, ap (λ j. met image j s) e ∙ w ∙ h)

  -- no stop between the two ends of a way
  not_between : (q : Bool) (most : ℕ) (s t : State) (o : Outcome) (c : Comes image last q most s o) (i : ℕ) → i < c.more → run image (suc i) s ≡ On t → Stops image last t.pc → ⊥
  not_between q most s t o c i lt e stop =
      let b = later_at image (IsBetween image last) c.more i s t c.between lt e in
      elim stop [ inl h ↦ h b.0 | inr h ↦ b.1 h ]

  no_stop : (q : Bool) (most : ℕ) (s t : State) (x : Option CpuEnd) (tapes : Tapes) (c : Comes image last q most s (Ended x tapes)) (i : ℕ) → run image (suc i) s ≡ On t → Stops image last t.pc → ⊥
  no_stop q most s t x tapes c i e stop =
      elim (cases_lt i c.more) [ inl lt ↦ not_between q most s t (Ended x tapes) c i lt e stop | inr le ↦ (let w = (way_end q most s x tapes c (suc i) (omega arith)).0 in absurd (cc)) ]

  -- ---- what is met at the start of a way

  met_one : (m : machine.State) (s : State) → Stands m s → m.statement < length program.statements → m.steps < n → listed (met_now image s) ≡ m.statement ∷ []
  met_one m s st lt some =
      let e : entry_at image.statements s.pc ≡ Some m.statement = ap (λ p. entry_at image.statements p) st.pc ∙ carries.entries m.statement lt in
      let l : steps_left s ≡ suc (n - m.steps - 1) = omega (arith, st.stands.left) in
      ap (λ o. listed (met_with o (steps_left s))) e ∙ ap (λ k. listed (met_with (Some m.statement) k)) l

  met_zero : (o : Option ℕ) (left : ℕ) → left ≡ 0 → listed (met_with o left) ≡ []
  met_zero o left e = ap (λ l. listed (met_with o l)) e

  met_none : (left : ℕ) → listed (met_with None left) ≡ []
  met_none zero = refl
  met_none (suc left) = refl

  met_none_left : (m : machine.State) (s : State) → Stands m s → m.steps ≡ n → listed (met_now image s) ≡ []
  met_none_left m s st e = met_zero (entry_at image.statements s.pc) (steps_left s) (omega (arith, st.stands.left))

  met_past : (s : State) → s.pc ≡ last → listed (met_now image s) ≡ []
  met_past s e = ap (λ o. listed (met_with o (steps_left s))) (ap (λ p. entry_at image.statements p) e ∙ carries.last_apart) ∙ met_none (steps_left s)

  -- ---- a run ends as the machine's

  same_end : (q : Bool) (b : ℕ) (s : State) (e : Option End) (tapes : Tapes) (most : ℕ) → EndsAs image last q most s e tapes → most ≤ b → (run image b s ≡ Ended (option_map as_end e) tapes) × (met image b s ≡ listed (met_now image s))
  same_end q b s e tapes most c le = way_end q most s (option_map as_end e) tapes c b (omega (arith, c.soon))

  same_run : (b : ℕ) (s : State) (e : Option End) (tapes : Tapes) (xs : List ℕ) → run image b s ≡ Ended (option_map as_end e) tapes → met image b s ≡ xs → SameRun (run_under image b s) (record { end = e; tapes = tapes; met = xs })
  same_run b s e tapes xs r m = record { end = ap end_of r; tapes = ap tapes_of r; met = m }

  past_same : (b : ℕ) (m : machine.State) (s : State) → Stands m s → slice_get program.statements m.statement ≡ None → 2000 ≤ b → SameRun (run_under image b s) (ended (Some (Undefined m.statement)) m.tapes)
  past_same b m s st none le =
      let k : m.statement ≡ length program.statements = omega (arith, none_past program.statements m.statement none, st.valid.within) in
      let pc : s.pc ≡ last = st.pc ∙ carries.beyond m.statement (omega arith) in
      let w = same_end false b s (Some (Undefined m.statement)) m.tapes 2000 (carries.past n m s small k st.valid pc st.stands) le in
      same_run b s (Some (Undefined m.statement)) m.tapes [] w.0 (w.1 ∙ met_past s pc)

  bound_same : (b : ℕ) (m : machine.State) (s : State) → Stands m s → m.statement < length program.statements → m.steps ≡ n → 2000 ≤ b → SameRun (run_under image b s) (ended (Some Budget) m.tapes)
  bound_same b m s st lt e le =
      let w = same_end false b s (Some Budget) m.tapes 2000 (carries.bound n m s small lt st.valid e st.pc st.stands) le in
      same_run b s (Some Budget) m.tapes [] w.0 (w.1 ∙ met_none_left m s st e)

  -- ---- whole runs

  abbrev Alike : ℕ → Type 0
  Alike left = (m : machine.State) (s : State) (b : ℕ) → Stands m s → m.steps + left ≡ n → left * slot + 2000 ≤ b → SameRun (run_under image b s) (abstract.run program parameters left m)

  made : (left : ℕ) → Alike left → (m : machine.State) (s : State) (b : ℕ) (st : Statement) (w : Step) → Stands m s → m.steps + suc left ≡ n → suc left * slot + 2000 ≤ b → slice_get program.statements m.statement ≡ Some st → make_step program parameters st m ≡ w → Makes image settings last n prints (cost program parameters st m) s w → SameRun (run_under image b s) (meet m.statement (after_step w ended (abstract.run program parameters left)))
  made left all m s b st (Ends e tapes) stands count fits is does c =
      let lt = slice_get_within program.statements m.statement st is in
      let w = same_end prints b s e tapes (cost program parameters st m) c (omega (arith, enough left slot b fits, cost_fits image program parameters m st of steady is stands.valid)) in
      same_run b s e tapes (m.statement ∷ []) w.0 (w.1 ∙ met_one m s stands lt (omega arith))
  made left all m s b st (Goes m') stands count fits is does (t, c, pc, rep) =
      let lt = slice_get_within program.statements m.statement st is in
      let kept = steady.keeps st m m' is stands.valid (omega arith) does in
      let soon : suc c.more ≤ slot = omega (arith, c.soon, cost_fits image program parameters m st of steady is stands.valid) in
      let w = way_run prints (cost program parameters st m) s t c b (omega (arith, enough left slot b fits)) in
      let rest = all m' t (b - suc c.more) (record { valid = kept.0; pc = pc; stands = rep }) (omega (arith, kept.1)) (less left slot c.more b fits soon) in
      record {
        end = ap end_of w.0 ∙ rest.end;
        tapes = ap tapes_of w.0 ∙ rest.tapes;
        met = w.1 ∙ ap (λ xs. xs ++ met image (b - suc c.more) t) (met_one m s stands lt (omega arith)) ∙ ap (λ xs. m.statement ∷ xs) rest.met;
      }

  alike_zero : (m : machine.State) (s : State) (b : ℕ) (o : Option Statement) → Stands m s → m.steps + 0 ≡ n → 2000 ≤ b → slice_get program.statements m.statement ≡ o → SameRun (run_under image b s) (with_statement o (ended (Some (Undefined m.statement)) m.tapes) (λ statement. ended (Some Budget) m.tapes))
  alike_zero m s b None st count fits is = past_same b m s st is fits
  alike_zero m s b (Some x) st count fits is = bound_same b m s st (slice_get_within program.statements m.statement x is) (omega arith) fits

  alike_more : (left : ℕ) → Alike left → (m : machine.State) (s : State) (b : ℕ) (o : Option Statement) → Stands m s → m.steps + suc left ≡ n → suc left * slot + 2000 ≤ b → slice_get program.statements m.statement ≡ o → SameRun (run_under image b s) (with_statement o (ended (Some (Undefined m.statement)) m.tapes) (λ statement. meet m.statement (after_step (make_step program parameters statement m) ended (abstract.run program parameters left))))
  alike_more left all m s b None st count fits is = past_same b m s st is (omega arith)
  alike_more left all m s b (Some x) st count fits is =
      made left all m s b x (make_step program parameters x m) st count fits is refl (carries.statement n m s x small is st.valid (omega arith) st.pc st.stands)

  alike : (left : ℕ) → Alike left
  unfolding abstract.run
  alike zero = λ m s b st count fits. alike_zero m s b (slice_get program.statements m.statement) st count (omega arith) refl
  alike (suc left) = λ m s b st count fits. alike_more left (alike left) m s b (slice_get program.statements m.statement) st count fits refl

  -- ---- where a run stops, its state stands for the machine's

  record Found (m m' : machine.State) (met : ℕ) (t : State) : Type 0 where
    comes : after program parameters met m ≡ Goes m'
    stands : Stands m' t

  abbrev Matched : machine.State → ℕ → State → Type 0
  Matched m met t = (m' : machine.State) × Found m m' met t

  abbrev Finds : ℕ → Type 0
  Finds left = (m : machine.State) (s : State) (i : ℕ) (t : State) → Stands m s → m.steps + left ≡ n → run image i s ≡ On t → Stops image last t.pc → Matched m (length (met image i s)) t

  found_here : (m : machine.State) (s t : State) → Stands m s → run image 0 s ≡ On t → Matched m (length (met image 0 s)) t
  unfolding run met after
  found_here m s t st e =
      let same : s ≡ t = cc in
      (m, record { comes = refl; stands = subst (λ x. Stands m x) same st })

  one_more : (m m' : machine.State) (x : Statement) (k : ℕ) → slice_get program.statements m.statement ≡ Some x → make_step program parameters x m ≡ Goes m' → after program parameters (suc k) m ≡ after program parameters k m'
  unfolding after step
  one_more m m' x k is does =
      ap (λ o. after_step (with_statement o (ends_with (Undefined m.statement) m) (λ statement. make_step program parameters statement m)) Ends (after program parameters k)) is ∙ ap (λ w. after_step w Ends (after program parameters k)) does

  found_made : (left : ℕ) → Finds left → (m : machine.State) (s : State) (i : ℕ) (t : State) (x : Statement) (w : Step) → Stands m s → m.steps + suc left ≡ n → run image (suc i) s ≡ On t → Stops image last t.pc → slice_get program.statements m.statement ≡ Some x → make_step program parameters x m ≡ w → Makes image settings last n prints (cost program parameters x m) s w → Matched m (length (met image (suc i) s)) t
  found_made left all m s i t x (Ends e tapes) st count r stop is does c = absurd (no_stop prints (cost program parameters x m) s t (option_map as_end e) tapes c i r stop)
  found_made left all m s i t x (Goes m') st count r stop is does (u, c, pc, rep) =
      elim (cases_lt i c.more) [ inl lt ↦ absurd (not_between prints (cost program parameters x m) s t (On u) c i lt r stop) | inr le ↦ later le ]
    where
      later : c.more ≤ i → Matched m (length (met image (suc i) s)) t
      later le =
          let lt = slice_get_within program.statements m.statement x is in
          let kept = steady.keeps x m m' is st.valid (omega arith) does in
          let w = way_run prints (cost program parameters x m) s u c (suc i) (omega arith) in
          let rest = all m' u (suc i - suc c.more) t (record { valid = kept.0; pc = pc; stands = rep }) (omega (arith, kept.1)) (sym w.0 ∙ r) stop in
          let many : length (met image (suc i) s) ≡ suc (length (met image (suc i - suc c.more) u)) = ap length (w.1 ∙ ap (λ xs. xs ++ met image (suc i - suc c.more) u) (met_one m s st lt (omega arith))) in
          (rest.0, record { comes = ap (λ k. after program parameters k m) many ∙ one_more m m' x (length (met image (suc i - suc c.more) u)) is does ∙ rest.1.comes; stands = rest.1.stands })

  past_stops : (m : machine.State) (s t : State) (i : ℕ) → Stands m s → slice_get program.statements m.statement ≡ None → run image (suc i) s ≡ On t → Stops image last t.pc → ⊥
  past_stops m s t i st none r stop =
      let k : m.statement ≡ length program.statements = omega (arith, none_past program.statements m.statement none, st.valid.within) in
      let pc : s.pc ≡ last = st.pc ∙ carries.beyond m.statement (omega arith) in
      no_stop false 2000 s t (Some (as_end (Undefined m.statement))) m.tapes (carries.past n m s small k st.valid pc st.stands) i r stop

  found_zero : (m : machine.State) (s : State) (i : ℕ) (t : State) (o : Option Statement) → Stands m s → m.steps + 0 ≡ n → slice_get program.statements m.statement ≡ o → run image (suc i) s ≡ On t → Stops image last t.pc → ⊥
  found_zero m s i t None st count is r stop = past_stops m s t i st is r stop
  found_zero m s i t (Some x) st count is r stop =
      no_stop false 2000 s t (Some (as_end Budget)) m.tapes (carries.bound n m s small (slice_get_within program.statements m.statement x is) st.valid (omega arith) st.pc st.stands) i r stop

  found_more : (left : ℕ) → Finds left → (m : machine.State) (s : State) (i : ℕ) (t : State) (o : Option Statement) → Stands m s → m.steps + suc left ≡ n → slice_get program.statements m.statement ≡ o → run image (suc i) s ≡ On t → Stops image last t.pc → Matched m (length (met image (suc i) s)) t
  found_more left all m s i t None st count is r stop = absurd (past_stops m s t i st is r stop)
  found_more left all m s i t (Some x) st count is r stop =
      found_made left all m s i t x (make_step program parameters x m) st count r stop is refl (carries.statement n m s x small is st.valid (omega arith) st.pc st.stands)

  finds_zero : (m : machine.State) (s : State) (i : ℕ) (t : State) → Stands m s → m.steps + 0 ≡ n → run image i s ≡ On t → Stops image last t.pc → Matched m (length (met image i s)) t
  finds_zero m s zero t st count r stop = found_here m s t st r
  finds_zero m s (suc i) t st count r stop = absurd (found_zero m s i t (slice_get program.statements m.statement) st count refl r stop)

  finds_more : (left : ℕ) → Finds left → (m : machine.State) (s : State) (i : ℕ) (t : State) → Stands m s → m.steps + suc left ≡ n → run image i s ≡ On t → Stops image last t.pc → Matched m (length (met image i s)) t
  finds_more left all m s zero t st count r stop = found_here m s t st r
  finds_more left all m s (suc i) t st count r stop = found_more left all m s i t (slice_get program.statements m.statement) st count refl r stop

  finds : (left : ℕ) → Finds left
  finds zero = finds_zero
  finds (suc left) = finds_more left (finds left)

  -- ---- what is silent makes no call 3

  not_called : (q : Bool) (t : State) → q ≡ false → Permits image q t → Calls image 3 t → ⊥
  not_called q t e p h = (let f : Permits image false t = subst (λ b. Permits image b t) e p in f h)

  quiet_way : (q : Bool) (most : ℕ) (s t : State) (o : Outcome) (c : Comes image last q most s o) (i : ℕ) → q ≡ false → i < suc c.more → run image i s ≡ On t → Calls image 3 t → ⊥
  quiet_way q most s t o c i e lt r h = not_called q t e (along_at image (Permits image q) (suc c.more) i (On s) t c.calls lt r) h

  quiet_end : (q : Bool) (most : ℕ) (s t : State) (x : Option CpuEnd) (tapes : Tapes) (c : Comes image last q most s (Ended x tapes)) (i : ℕ) → q ≡ false → run image i s ≡ On t → Calls image 3 t → ⊥
  quiet_end q most s t x tapes c i e r h =
      elim (cases_lt i (suc c.more)) [ inl lt ↦ quiet_way q most s t (Ended x tapes) c i e lt r h | inr le ↦ (let w = (way_end q most s x tapes c i le).0 in absurd (cc)) ]

  abbrev Quiet : ℕ → Type 0
  Quiet left = (m : machine.State) (s : State) (i : ℕ) (t : State) → Stands m s → m.steps + left ≡ n → run image i s ≡ On t → Calls image 3 t → ⊥

  quiet_made : (left : ℕ) → Quiet left → (m : machine.State) (s : State) (i : ℕ) (t : State) (x : Statement) (w : Step) → prints ≡ false → Stands m s → m.steps + suc left ≡ n → run image i s ≡ On t → Calls image 3 t → slice_get program.statements m.statement ≡ Some x → make_step program parameters x m ≡ w → Makes image settings last n prints (cost program parameters x m) s w → ⊥
  quiet_made left all m s i t x (Ends e tapes) hush st count r h is does c = quiet_end prints (cost program parameters x m) s t (option_map as_end e) tapes c i hush r h
  quiet_made left all m s i t x (Goes m') hush st count r h is does (u, c, pc, rep) =
      elim (cases_lt i (suc c.more)) [ inl lt ↦ quiet_way prints (cost program parameters x m) s t (On u) c i hush lt r h | inr le ↦ later le ]
    where
      later : suc c.more ≤ i → ⊥
      later le =
          let kept = steady.keeps x m m' is st.valid (omega arith) does in
          let w = way_run prints (cost program parameters x m) s u c i le in
          all m' u (i - suc c.more) t (record { valid = kept.0; pc = pc; stands = rep }) (omega (arith, kept.1)) (sym w.0 ∙ r) h

  quiet_past : (m : machine.State) (s t : State) (i : ℕ) → Stands m s → slice_get program.statements m.statement ≡ None → run image i s ≡ On t → Calls image 3 t → ⊥
  quiet_past m s t i st none r h =
      let k : m.statement ≡ length program.statements = omega (arith, none_past program.statements m.statement none, st.valid.within) in
      let pc : s.pc ≡ last = st.pc ∙ carries.beyond m.statement (omega arith) in
      quiet_end false 2000 s t (Some (as_end (Undefined m.statement))) m.tapes (carries.past n m s small k st.valid pc st.stands) i refl r h

  quiet_zero : (m : machine.State) (s : State) (i : ℕ) (t : State) (o : Option Statement) → Stands m s → m.steps + 0 ≡ n → slice_get program.statements m.statement ≡ o → run image i s ≡ On t → Calls image 3 t → ⊥
  quiet_zero m s i t None st count is r h = quiet_past m s t i st is r h
  quiet_zero m s i t (Some x) st count is r h =
      quiet_end false 2000 s t (Some (as_end Budget)) m.tapes (carries.bound n m s small (slice_get_within program.statements m.statement x is) st.valid (omega arith) st.pc st.stands) i refl r h

  quiet_more : prints ≡ false → (left : ℕ) → Quiet left → (m : machine.State) (s : State) (i : ℕ) (t : State) (o : Option Statement) → Stands m s → m.steps + suc left ≡ n → slice_get program.statements m.statement ≡ o → run image i s ≡ On t → Calls image 3 t → ⊥
  quiet_more hush left all m s i t None st count is r h = quiet_past m s t i st is r h
  quiet_more hush left all m s i t (Some x) st count is r h =
      quiet_made left all m s i t x (make_step program parameters x m) hush st count r h is refl (carries.statement n m s x small is st.valid (omega arith) st.pc st.stands)

  quiet : prints ≡ false → (left : ℕ) → Quiet left
  quiet hush zero = λ m s i t st count r h. quiet_zero m s i t (slice_get program.statements m.statement) st count refl r h
  quiet hush (suc left) = λ m s i t st count r h. quiet_more hush left (quiet hush left) m s i t (slice_get program.statements m.statement) st count refl r h

  -- ---- from the start

  module _ (tapes : Tapes) where
    abbrev s0 : State
    s0 = start image tapes n

    abbrev m0 : machine.State
    m0 = first_state program settings tapes

    begins : ComesTo image settings last n false 2000 s0 m0
    begins = carries.begins tapes n small

    first_stands : Stands m0 begins.0
    first_stands = record { valid = (steady.start tapes).0; pc = begins.2; stands = begins.3 }

    met_first : listed (met_now image s0) ≡ []
    unfolding start
    met_first = ap (λ o. listed (met_with o (steps_left s0))) carries.first_apart.0 ∙ met_none (steps_left s0)

    whole : SameRun (run_under image (budget image n) s0) (abstract.run program parameters n m0)
    whole =
        let c = begins.1 in
        let large = slot_large image in
        let w = way_run false 2000 s0 begins.0 c (budget image n) (at_start n slot c.more large c.soon) in
        let count : m0.steps + n ≡ n = omega (arith, (steady.start tapes).1) in
        let rest = alike n m0 begins.0 (budget image n - suc c.more) first_stands count (after_start n slot c.more large c.soon) in
        record {
          end = ap end_of w.0 ∙ rest.end;
          tapes = ap tapes_of w.0 ∙ rest.tapes;
          met = w.1 ∙ ap (λ xs. xs ++ met image (budget image n - suc c.more) begins.0) met_first ∙ rest.met;
        }

    apart : (t : State) → run image 0 s0 ≡ On t → Stops image last t.pc → ⊥
    unfolding run start
    apart t e stop =
        let same : s0 ≡ t = cc in
        let pc : t.pc ≡ 0x1_0000 = ap (λ x. x.pc) (sym same) in
        elim stop [ inl h ↦ h (ap (λ p. entry_at image.statements p) pc ∙ carries.first_apart.0) | inr h ↦ carries.first_apart.1 (sym pc ∙ h) ]

    found : (i : ℕ) (t : State) → run image i s0 ≡ On t → Stops image last t.pc → Matched m0 (length (met image i s0)) t
    found zero t r stop = absurd (apart t r stop)
    found (suc i) t r stop = elim (cases_lt i begins.1.more) [ inl lt ↦ absurd (not_between false 2000 s0 t (On begins.0) begins.1 i lt r stop) | inr le ↦ later le ]
      where
        later : begins.1.more ≤ i → Matched m0 (length (met image (suc i) s0)) t
        later le =
            let c = begins.1 in
            let w = way_run false 2000 s0 begins.0 c (suc i) (omega arith) in
            let count : m0.steps + n ≡ n = omega (arith, (steady.start tapes).1) in
            let rest = finds n m0 begins.0 (suc i - suc c.more) t first_stands count (sym w.0 ∙ r) stop in
            let same : met image (suc i) s0 ≡ met image (suc i - suc c.more) begins.0 = w.1 ∙ ap (λ xs. xs ++ met image (suc i - suc c.more) begins.0) met_first in
            subst (λ xs. Matched m0 (length xs) t) (sym same) rest

    silent : prints ≡ false → (i : ℕ) (t : State) → run image i s0 ≡ On t → Calls image 3 t → ⊥
    silent hush i t r h = elim (cases_lt i (suc begins.1.more)) [ inl lt ↦ quiet_way false 2000 s0 t (On begins.0) begins.1 i refl lt r h | inr le ↦ later le ]
      where
        later : suc begins.1.more ≤ i → ⊥
        later le =
            let w = way_run false 2000 s0 begins.0 begins.1 i le in
            let count : m0.steps + n ≡ n = omega (arith, (steady.start tapes).1) in
            quiet hush n m0 begins.0 (i - suc begins.1.more) t first_stands count (sym w.0 ∙ r) h

    -- ---- how long the ways are

    is_stop : (k : ℕ) (o : Option ℕ) → o ≡ Some k → o ≢ None
    is_stop k None e = absurd cc
    is_stop k (Some x) e = λ h. absurd (cc)

    stops_at : (k : ℕ) (t : State) → k ≤ length program.statements → t.pc ≡ place image last k → Stops image last t.pc
    stops_at k t le pc =
        elim (cases_lt k (length program.statements)) [ inl lt ↦ inl (is_stop k (entry_at image.statements t.pc) (ap (λ p. entry_at image.statements p) pc ∙ carries.entries k lt)) | inr past ↦ inr (pc ∙ carries.beyond k past) ]

    -- the statement at whose place the state stands
    entered : (m : machine.State) (t : State) (k : ℕ) → Stands m t → entry_at image.statements t.pc ≡ Some k → (m.statement < length program.statements) × (m.statement ≡ k)
    entered m t k st e = elim (cases_lt m.statement (length program.statements)) [ inl lt ↦ (lt, same lt) | inr past ↦ absurd (never past) ]
      where
        same : m.statement < length program.statements → m.statement ≡ k
        same lt =
            let f : entry_at image.statements t.pc ≡ Some m.statement = ap (λ p. entry_at image.statements p) st.pc ∙ carries.entries m.statement lt in
            cc

        never : length program.statements ≤ m.statement → ⊥
        never past =
            let f : entry_at image.statements t.pc ≡ None = ap (λ p. entry_at image.statements p) (st.pc ∙ carries.beyond m.statement past) ∙ carries.last_apart in
            absurd (cc)

    at_last : (m : machine.State) (t : State) → Stands m t → t.pc ≡ last → m.statement ≡ length program.statements
    at_last m t st e = elim (cases_lt m.statement (length program.statements)) [ inl lt ↦ absurd (never lt) | inr past ↦ omega (arith, st.valid.within) ]
      where
        never : m.statement < length program.statements → ⊥
        never lt =
            let f : entry_at image.statements t.pc ≡ Some m.statement = ap (λ p. entry_at image.statements p) st.pc ∙ carries.entries m.statement lt in
            let g : entry_at image.statements t.pc ≡ None = ap (λ p. entry_at image.statements p) e ∙ carries.last_apart in
            absurd (cc)

    ends_within : (s : State) (x : Option CpuEnd) (out : Tapes) → Comes image last false 2000 s (Ended x out) → Within image 2000 s IsEnd
    ends_within s x out c = (suc c.more, omega arith, c.soon, subst IsEnd (sym c.comes) tt)

    paced_begins : Within image 2000 s0 (λ o. (t : State) × (o ≡ On t) × (t.pc ≡ place image last 0))
    unfolding first_state
    paced_begins = (suc begins.1.more, omega arith, begins.1.soon, (begins.0, begins.1.comes, begins.2))

    made_within : (m : machine.State) (t : State) (st : Statement) (w : Step) → Stands m t → m.steps < n → slice_get program.statements m.statement ≡ Some st → make_step program parameters st m ≡ w → Makes image settings last n prints (cost program parameters st m) t w → Within image (cost program parameters st m) t (Arrives image last)
    made_within m t st (Ends e out) stands some is does c = (suc c.more, omega arith, c.soon, subst (Arrives image last) (sym c.comes) tt)
    made_within m t st (Goes m') stands some is does (u, c, pc, rep) =
        let kept = steady.keeps st m m' is stands.valid (omega arith) does in
        let stop = stops_at m'.statement u kept.0.within pc in
        (suc c.more, omega arith, c.soon, subst (Arrives image last) (sym c.comes) stop)

    paced_statement : (i k : ℕ) (t : State) → run image i s0 ≡ On t → entry_at image.statements t.pc ≡ Some k → 0 < steps_left t →
        (m : machine.State) × (after program parameters (length (met image i s0)) m0 ≡ Goes m) × (s : Statement) × (slice_get program.statements k ≡ Some s) × Within image (cost program parameters s m) t (Arrives image last)
    paced_statement i k t r e some =
        let f = found i t r (inl (is_stop k (entry_at image.statements t.pc) e)) in
        let at = entered f.0 t k f.1.stands e in
        let x = some_statement program.statements f.0.statement at.0 in
        let few : f.0.steps < n = omega (arith, f.1.stands.stands.left) in
        let w = carries.statement n f.0 t x.0 small x.1 f.1.stands.valid few f.1.stands.pc f.1.stands.stands in
        (f.0, f.1.comes, x.0, ap (λ j. slice_get program.statements j) (sym at.1) ∙ x.1, made_within f.0 t x.0 (make_step program parameters x.0 f.0) f.1.stands few x.1 refl w)

    paced_bound : (i k : ℕ) (t : State) → run image i s0 ≡ On t → entry_at image.statements t.pc ≡ Some k → steps_left t ≡ 0 → Within image 2000 t IsEnd
    paced_bound i k t r e none =
        let f = found i t r (inl (is_stop k (entry_at image.statements t.pc) e)) in
        let at = entered f.0 t k f.1.stands e in
        ends_within t (Some (as_end Budget)) f.0.tapes (carries.bound n f.0 t small at.0 f.1.stands.valid (omega (arith, f.1.stands.stands.left)) f.1.stands.pc f.1.stands.stands)

    paced_past : (i : ℕ) (t : State) → run image i s0 ≡ On t → t.pc ≡ last → Within image 2000 t IsEnd
    paced_past i t r e =
        let f = found i t r (inr e) in
        let k = at_last f.0 t f.1.stands e in
        ends_within t (Some (as_end (Undefined f.0.statement))) f.0.tapes (carries.past n f.0 t small k f.1.stands.valid e f.1.stands.stands)

    matches : (i : ℕ) (t : State) → run image i s0 ≡ On t → Stops image last t.pc → (m : machine.State) × (after program parameters (length (met image i s0)) m0 ≡ Goes m) × (t.pc ≡ place image last m.statement) × Represents settings n m t
    matches i t r stop = let f = found i t r stop in (f.0, f.1.comes, f.1.stands.pc, f.1.stands.stands)

not_fetch : (e : Option End) (pc : ℕ) → option_map as_end e ≢ Some (Fetch pc)
not_fetch None pc = λ h. absurd (cc)
not_fetch (Some (Exit code)) pc = λ h. absurd (cc)
not_fetch (Some (Trap k)) pc = λ h. absurd (cc)
not_fetch (Some (Undefined k)) pc = λ h. absurd (cc)
not_fetch (Some (UnitFault k unit)) pc = λ h. absurd (cc)
not_fetch (Some Budget) pc = λ h. absurd (cc)
not_fetch (Some Memory) pc = λ h. absurd (cc)

runs : (image : Image) (program : Program) (parameters : Parameters) (last : ℕ) (prints : Bool) → IsSteady program parameters → IsImageOf image program parameters.settings → CarriesOut image program parameters last prints → RunsAlike image program parameters
unfolding emulation
runs image program parameters last prints steady of carries = λ tapes n small. whole image program parameters last steady of prints carries n small tapes

pub law : LawOfInstalledImages
law image program parameters last prints steady of carries hush = record {
  last = last;
  alike = runs image program parameters last prints steady of carries;
  inside = λ tapes n pc small e. not_fetch (machine_run program parameters tapes n).end pc (sym (runs image program parameters last prints steady of carries tapes n small).end ∙ e);
  silent = λ still tapes n i t c h. silent image program parameters last steady of prints carries n c.0 tapes (hush still) i t c.1 h;
  paced = record {
    begins = λ tapes n small. paced_begins image program parameters last steady of prints carries n small tapes;
    statement = λ tapes n i k t c. paced_statement image program parameters last steady of prints carries n c.0 tapes i k t c.1;
    bound = λ tapes n i k t c. paced_bound image program parameters last steady of prints carries n c.0 tapes i k t c.1;
    past = λ tapes n i t c. paced_past image program parameters last steady of prints carries n c.0 tapes i t c.1;
  };
  follows = λ tapes n i t c. matches image program parameters last steady of prints carries n c.0 tapes i t c.1;
}
