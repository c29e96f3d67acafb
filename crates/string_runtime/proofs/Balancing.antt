-- The least number of characters that are balanced.
use Rattle.std.proofs.Common.{◌≡◌, ℕ, zero, suc, ◌+◌, ◌*◌, ◌≤◌, ◌<◌, ◌^◌, List, [], ◌∷◌, Option, Some, true, false, refl, arith, lit≤}
use Rattle.std.proofs.lemmas.Bool.Decides.{nat_tests}
use Rattle.std.proofs.lemmas.Int.{ints}
use Rattle.std.specs.Prelude.{ℤ, pos, negsuc, nat_eq, nat_lt, FitsSigned}
use Rattle.std.specs.Int.{w64}
use Rattle.sil_macros.specs.declared.names.Macro.TheVariants.{Getbal}
use Rattle.sil_model.specs.declared.program.Arg.TheVariants.{Goto, Place}
use Rattle.sil_model.specs.declared.program.Specials.{Specials}
use Rattle.sil_model.specs.Access.{◌>>=◌, char_at, set_v_at, descr_at}
use Rattle.sil_model.specs.Arguments.{flow_to}
use Rattle.sil_model.specs.Effects.{MemoryEffect}
use Rattle.sil_model.specs.Integers.{◌⊞◌, wrapped_sum, wrapped_difference, within}
use Rattle.sil_model.specs.Memory.{IsMemory}
use Rattle.sil_model.specs.States.{State}
use Rattle.layout_params.specs.Parameters.{Parameters}
use Rattle.sil_model.specs.declared.program.Program.{Program}
use Rattle.sil_micro.specs.declared.op.Op.{Op}
use Rattle.sil_micro.specs.Expands.{CanBegin, Does, Makes, at}
use Rattle.sil_micro.specs.MicroStates.{Setting, Micro, Registers}
use Rattle.sil_micro.proofs.Making.{by_option, by_test, more, by_way}
use Rattle.exp_common.specs.Locations.{lead}
use Rattle.exp_common.proofs.Leads.{goes_to}
use Rattle.exp_common.proofs.Questions.{by_read}
use Rattle.string_clauses.specs.StringClauses.{at_depth, balance_turn, closed, getbal, longer_by, unbalanced}
use Rattle.string_clauses.specs.StringTable.{getbal_turns, string_clause, string_visits}
use Rattle.string_clauses.specs.Walks.{on_turn, visits_after, walk, walk_visits}
use Rattle.string_runtime.specs.StringParts.{balance_code}
use Rattle.string_runtime.proofs.StringHeads.{after_memory}
use Rattle.exp_common.proofs.Words.{add_pos, sub_one}

-- a length that is too great is none, whether or not it wraps
sum_within : (limit l j : ℕ) → limit < 2 ^ 48 → l < 2 ^ 48 → j < 2 ^ 63 → within limit (wrapped_sum (pos l) (pos j)) ≡ within limit (pos (l + j))
unfolding within wrapped_sum
sum_within limit l j h k small = grind (arith, ints, nat_tests)

module _ (g : Setting) (k : ℕ) (s d : ℤ) (failure success : Option ℕ) (before : State) (valid : IsMemory before.memory) (failed : Option ℕ) (words : ℕ → ℤ) (r : Registers) (first : ℤ) (l total cost : ℕ) where
  abbrev code : List Op
  code = balance_code k s d (lead before.statement failure) (lead before.statement success)

  abbrev size : ℤ
  size = pos before.memory.limits.cell_size

  abbrev answer : Option ℕ → MemoryEffect
  answer found = longer_by before.memory s l found (flow_to failure) (flow_to success)

  -- the state at the loop's head
  abbrev at_depth_of : ℕ → ℕ → ℤ → ℤ → ℕ → Micro
  at_depth_of i depth a b w = record {
    state = record before { steps = before.steps + 1 };
    registers = record r { r2 = first; r4 = pos 0; r6 = s ⊞ size; r7 = pos l; r8 = pos total; r9 = pos depth; r10 = pos i; r11 = pos 1; r12 = pos 41; r13 = pos 40; r14 = a; r15 = b };
    scratch = words;
    failed = failed;
    spent = w;
  }

  -- an answer
  found_goes : (j : ℕ) (a b : ℤ) (w : ℕ) → j < 2 ^ 63 → l < 2 ^ 48 → w + 100 ≤ cost → Makes g (before.statement + 1) code 31 (at_depth_of j 0 a b w) (after_memory before (answer (Some j))) cost
  unfolding balance_code
  found_goes j a b w small few pays =
      let same = sum_within before.memory.limits.value_limit l j valid.limits.values few small in
      by_option (descr_at before.memory (s ⊞ size)) (λ none. record { fuel = 4; meets = simp none (refl, refl, omega (arith, pays)) }) (λ x is.
      by_option (set_v_at before.memory (s ⊞ size) (pos (l + j)))
      (λ none. let none' = simp is at none in record { fuel = 4; meets = simp (is, same, none') (refl, refl, omega (arith, pays)) })
      (λ after set. let set' = simp is at set in record { fuel = 4; meets = simp (is, same, set', goes_to) (refl, omega (arith, pays)) }))

  -- behind a character that leaves a depth
  settles : (n i depth : ℕ) (a b : ℤ) (w w0 : ℕ) → i + 1 < 2 ^ 63 → l < 2 ^ 48 → w ≤ w0 + 90 → w0 + 120 * visits_after (Some (at_depth (i + 1) depth)) (walk_visits (balance_turn before.memory first) (i + 1) n) + 200 ≤ cost →
      ((w' : ℕ) → w' + 120 * walk_visits (balance_turn before.memory first) (i + 1) n depth + 200 ≤ cost →
      Makes g (before.statement + 1) code 18 (at_depth_of (i + 1) depth a b w') (after_memory before (walk (balance_turn before.memory first) unbalanced (i + 1) n depth >>= answer)) cost) →
      Makes g (before.statement + 1) code 24 (at_depth_of (i + 1) depth a b w) (after_memory before (on_turn (at_depth (i + 1) depth) (walk (balance_turn before.memory first) unbalanced (i + 1) n) >>= answer)) cost
  unfolding balance_code
  settles n i zero a b w w0 small few le pays more = by_way (found_goes (i + 1) a b (w + 8) small few (omega (arith, le, pays))) (λ f y. record { fuel = suc f; meets = y })
  settles n i (suc depth) a b w w0 small few le pays more' =
      let z : nat_eq (suc depth) 0 ≡ false = grind arith in
      by_way (more' (w + 8 + 8) (omega (arith, le, pays))) (λ f y. record { fuel = more 2 f; meets = simp z y })

  -- a `)` at a depth
  closes : (n i depth : ℕ) (a b : ℤ) (w w0 : ℕ) → i + 1 < 2 ^ 63 → depth ≤ i → l < 2 ^ 48 → w ≤ w0 + 60 → w0 + 120 * visits_after (Some (closed (i + 1) depth)) (walk_visits (balance_turn before.memory first) (i + 1) n) + 200 ≤ cost →
      ((depth' w' : ℕ) → depth' ≤ i → w' + 120 * walk_visits (balance_turn before.memory first) (i + 1) n depth' + 200 ≤ cost →
      Makes g (before.statement + 1) code 18 (at_depth_of (i + 1) depth' a b w') (after_memory before (walk (balance_turn before.memory first) unbalanced (i + 1) n depth' >>= answer)) cost) →
      Makes g (before.statement + 1) code 26 (at_depth_of (i + 1) depth a b w) (after_memory before (on_turn (closed (i + 1) depth) (walk (balance_turn before.memory first) unbalanced (i + 1) n) >>= answer)) cost
  unfolding balance_code
  closes n i zero a b w w0 small deep few le pays more' = record { fuel = 2; meets = simp goes_to (refl, omega (arith, le, pays)) }
  closes n i (suc depth) a b w w0 small deep few le pays more' =
      let z : nat_eq (suc depth) 0 ≡ false = grind arith in
      let down : wrapped_difference (pos (suc depth)) (pos 1) ≡ pos depth = sub_one depth (omega (arith, deep, small)) in
      by_way (settles n i depth a b (w + 8 + 8 + 8) w0 small few (omega (arith, le)) pays (λ w' pays'. more' depth w' (omega (arith, deep)) pays')) (λ f y. record { fuel = more 3 f; meets = simp (z, down) y })

  balance_loop : (n i depth : ℕ) (a b : ℤ) (w : ℕ) → i + n ≡ total → total < 2 ^ 63 → depth ≤ i → l < 2 ^ 48 → w + 120 * walk_visits (balance_turn before.memory first) i n depth + 200 ≤ cost →
      Makes g (before.statement + 1) code 18 (at_depth_of i depth a b w) (after_memory before (walk (balance_turn before.memory first) unbalanced i n depth >>= answer)) cost
  unfolding walk walk_visits balance_turn balance_code
  balance_loop zero i depth a b w is small le few pays =
      let e : i ≡ total = omega (arith, is) in
      let z : nat_eq total total ≡ true = grind arith in
      record { fuel = 2; meets = simp (e, z, goes_to) (refl, omega (arith, pays)) }
  balance_loop (suc n) i depth a b w is small le few pays =
      let z : nat_eq i total ≡ false = grind arith in
      let near : i + 1 < 2 ^ 63 = omega (arith, is, small) in
      let up : wrapped_sum (pos i) (pos 1) ≡ pos (i + 1) = add_pos i 1 (i + 1) refl near in
      by_option (char_at before.memory (first ⊞ pos i))
      (λ e. let pays' = simp e at pays in record { fuel = 8; meets = simp (z, e) (refl, refl, omega (arith, pays')) })
      (λ c e. by_test (nat_eq c 41)
      (λ t.
      let pays' = simp (e, t) at pays in
      by_way (closes n i depth (first ⊞ pos i) (pos c) (w + 8 + 8 + 28 + 8 + 8) w near le few (omega arith) pays' (λ depth' w' le' p. balance_loop n (i + 1) depth' (first ⊞ pos i) (pos c) w' (omega (arith, is)) small (omega (arith, le')) few p))
      (λ f y. record { fuel = more 5 f; meets = simp (z, e, t, up) y }))
      (λ t. by_test (nat_eq c 40)
      (λ t'.
      let pays' = simp (e, t, t') at pays in
      let deeper : wrapped_sum (pos depth) (pos 1) ≡ pos (depth + 1) = add_pos depth 1 (depth + 1) refl (omega (arith, is, small, le)) in
      by_way (balance_loop n (i + 1) (depth + 1) (first ⊞ pos i) (pos c) (w + 8 + 8 + 28 + 8 + 8 + 8 + 8 + 8) (omega (arith, is)) small (omega (arith, le)) few (omega (arith, pays')))
      (λ f y. record { fuel = more 8 f; meets = simp (z, e, t, t', up, deeper) y }))
      (λ t'.
      let pays' = simp (e, t, t') at pays in
      by_way (settles n i depth (first ⊞ pos i) (pos c) (w + 8 + 8 + 28 + 8 + 8 + 8) w near few (omega arith) pays' (λ w' p. balance_loop n (i + 1) depth (first ⊞ pos i) (pos c) w' (omega (arith, is)) small (omega (arith, le)) few p))
      (λ f y. record { fuel = more 6 f; meets = simp (z, e, t, t', up) y }))))

module _ (k : ℕ) (s d : ℤ) (failure success : Option ℕ) (specials : Specials) where
  abbrev pub getbal_code : List Op
  getbal_code = balance_code k s d (lead k failure) (lead k success)

  by_count : (g : Setting) (program : Program) (parameters : Parameters) (u : Micro) → CanBegin g program parameters specials k (Place s ∷ Place d ∷ Goto failure ∷ Goto success ∷ []) u → (o : ℤ) (f2 l : ℕ) →
      descr_at u.state.memory (s ⊞ pos u.state.memory.limits.cell_size) ≡ Some (record { a = o; f = f2; v = l }) → l < 2 ^ 48 → (a : ℤ) (f v : ℕ) → descr_at u.state.memory d ≡ Some (record { a = a; f = f; v = v }) → FitsSigned w64 a →
      Makes g (k + 1) getbal_code 0 u (after_memory (at k u.state) (getbal (Place s ∷ Place d ∷ Goto failure ∷ Goto success ∷ []) u.state.memory)) (2000 + 400 * (4 + (4 + getbal_turns (Place s ∷ Place d ∷ Goto failure ∷ Goto success ∷ []) u.state.memory)))
  unfolding getbal balance_code walk
  by_count g program parameters u h o f2 l is few (negsuc n) f v is2 fits = record { fuel = 12; meets = simp (h.left, is, is2, goes_to) (refl, omega arith) }
  by_count g program parameters u h o f2 l is few (pos zero) f v is2 fits = record { fuel = 12; meets = simp (h.left, is, is2, goes_to) (refl, omega arith) }
  by_count g program parameters u h o f2 l is few (pos (suc n)) f v is2 fits =
      let lt : nat_lt 0 (suc n) ≡ true = grind (arith, nat_tests) in
      let before : State = at k u.state in
      let m = u.state.memory in
      let valid = h.valid.memory in
      let size = pos m.limits.cell_size in
      by_read m s valid (λ none. record { fuel = 12; meets = simp (h.left, is, is2, lt, none) (refl, refl, omega arith) }) (λ a f1 v1 is3 read3.
      let first = a ⊞ o ⊞ pos l in
      let cost = 2000 + 400 * (4 + (4 + walk_visits (balance_turn m first) 0 (suc n) 0)) in
      let r : Registers = record u.registers { r1 = s; r3 = o; r5 = size } in
      by_way (balance_loop g k s d failure success before valid u.failed u.scratch r first l (suc n) cost (suc n) 0 0 u.registers.r14 u.registers.r15 (28 + 8 + 8 + 8 + 8 + 28 + 8 + 28 + 8 + 28 + 28 + 8 + 8 + 8 + 8 + 8 + 8 + 8) (omega arith) (omega (arith, fits)) (omega arith) few (omega arith))
      (λ fuel y. record { fuel = more 18 fuel; meets = simp (h.left, is, is2, lt, is3) y }))

  pub getbal_does : Does k getbal_code specials (Place s ∷ Place d ∷ Goto failure ∷ Goto success ∷ []) (string_clause Getbal) (string_visits Getbal)
  unfolding string_clause getbal balance_code
  getbal_does g program parameters u h =
      let m = u.state.memory in
      let valid = h.valid.memory in
      by_read m (s ⊞ pos m.limits.cell_size) valid (λ none. record { fuel = 12; meets = simp (h.left, none) (refl, refl, lit≤ tt) }) (λ o f2 l is read.
      by_read m d valid (λ none. record { fuel = 12; meets = simp (h.left, is, none) (refl, refl, lit≤ tt) }) (λ a f v is2 read2.
      by_count g program parameters u h o f2 l is read.value a f v is2 read2.fits))
