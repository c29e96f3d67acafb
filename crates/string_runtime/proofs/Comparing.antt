-- Two strings, compared.
use Rattle.std.proofs.Common.{◌≡◌, ℕ, zero, suc, ◌+◌, ◌*◌, ◌≤◌, ◌<◌, ◌^◌, List, [], ◌∷◌, Option, Some, true, false, refl, arith}
use Rattle.std.specs.Prelude.{ℤ, pos, nat_eq, nat_lt, nat_le}
use Rattle.sil_macros.specs.declared.names.Macro.TheVariants.{Lexcmp}
use Rattle.sil_model.specs.declared.program.Arg.TheVariants.{Goto, Place}
use Rattle.sil_model.specs.declared.program.Specials.{Specials}
use Rattle.sil_model.specs.Access.{◌>>=◌, char_at}
use Rattle.sil_model.specs.Arguments.{flow_to}
use Rattle.sil_model.specs.Effects.{MemoryEffect}
use Rattle.sil_model.specs.Integers.{◌⊞◌, wrapped_sum}
use Rattle.sil_model.specs.States.{State, Step}
use Rattle.sil_micro.specs.declared.op.Op.{Op}
use Rattle.sil_micro.specs.Expands.{Does, IsPiece, Makes, at}
use Rattle.sil_micro.specs.MicroStates.{Setting, Micro, Registers}
use Rattle.sil_micro.specs.Pieces.{joined, is_part}
use Rattle.sil_micro.proofs.Making.{by_option, by_test, more, by_way, then_part}
use Rattle.exp_common.specs.Locations.{lead}
use Rattle.exp_common.proofs.JoinedParts.{IsPart, both_parts, whole_piece}
use Rattle.exp_common.proofs.Leads.{goes_to}
use Rattle.string_clauses.specs.StringClauses.{all_equal, by_numbers, compare_turn, lexcmp, shorter}
use Rattle.string_clauses.specs.StringTable.{lexcmp_turns, string_clause, string_visits}
use Rattle.string_clauses.specs.Walks.{walk, walk_visits}
use Rattle.string_runtime.specs.StringParts.{compare_code, first_code, first_length, first_string, length_code, shorter_code, start_code}
use Rattle.string_runtime.proofs.StringHeads.{after_memory, first_goes, first_part, length_goes, length_part, start_first, start_goes}
use Rattle.exp_common.proofs.Words.{add_pos}

module _ (g : Setting) (before : State) (failed : Option ℕ) (words : ℕ → ℤ) (r : Registers) (l1 l2 total cost : ℕ) (at1 at2 : ℤ) (greater equal less : Option ℕ) where
  abbrev code : List Op
  code = compare_code (lead before.statement greater) (lead before.statement equal) (lead before.statement less)

  abbrev decided : ℕ × ℕ → MemoryEffect
  decided d = Some (by_numbers d (flow_to greater) (flow_to equal) (flow_to less), before.memory)

  -- the state at the loop's head, and behind the loop
  abbrev at_pair : ℕ → ℤ → ℤ → ℕ → Micro
  at_pair i x y w = record {
    state = record before { steps = before.steps + 1 };
    registers = record r { r1 = x; r2 = y; r7 = pos total; r8 = pos l1; r9 = pos l2; r10 = pos i; r11 = pos 1; r12 = pos total; r13 = at1; r14 = at2 };
    scratch = words;
    failed = failed;
    spent = w;
  }

  by_chars : (i x y w : ℕ) → w + 24 ≤ cost → Makes g (before.statement + 1) code 11 (at_pair i (pos x) (pos y) w) (after_memory before (decided (x, y))) cost
  unfolding compare_code
  by_chars i x y w pays =
      by_test (nat_lt y x) (λ t. record { fuel = 4; meets = simp (t, goes_to) (refl, omega (arith, pays)) })
      (λ t. by_test (nat_lt x y) (λ t'. record { fuel = 4; meets = simp (t, t', goes_to) (refl, omega (arith, pays)) }) (λ t'. record { fuel = 4; meets = simp (t, t', goes_to) (refl, omega (arith, pays)) }))

  by_length : (i w : ℕ) (x y : ℤ) → w + 24 ≤ cost → Makes g (before.statement + 1) code 14 (at_pair i x y w) (after_memory before (decided (l1, l2))) cost
  unfolding compare_code
  by_length i w x y pays =
      by_test (nat_lt l2 l1) (λ t. record { fuel = 4; meets = simp (t, goes_to) (refl, omega (arith, pays)) })
      (λ t. by_test (nat_lt l1 l2) (λ t'. record { fuel = 4; meets = simp (t, t', goes_to) (refl, omega (arith, pays)) }) (λ t'. record { fuel = 4; meets = simp (t, t', goes_to) (refl, omega (arith, pays)) }))

  pair_loop : (n i : ℕ) (x y : ℤ) (w : ℕ) → i + n ≡ total → total < 2 ^ 62 → w + 120 * walk_visits (compare_turn before.memory at1 at2) i n (l1, l2) + 100 ≤ cost →
      Makes g (before.statement + 1) code 3 (at_pair i x y w) (after_memory before (walk (compare_turn before.memory at1 at2) all_equal i n (l1, l2) >>= decided)) cost
  unfolding walk walk_visits compare_turn compare_code
  pair_loop zero i x y w is small pays =
      let e : i ≡ total = omega (arith, is) in
      let z : nat_eq total total ≡ true = grind arith in
      by_way (by_length total (w + 8) x y (omega (arith, pays))) (λ f m. record { fuel = suc f; meets = simp (e, z) m })
  pair_loop (suc n) i x y w is small pays =
      let z : nat_eq i total ≡ false = grind arith in
      let up : wrapped_sum (pos i) (pos 1) ≡ pos (i + 1) = add_pos i 1 (i + 1) refl (omega (arith, is, small)) in
      by_option (char_at before.memory (at1 ⊞ pos i))
      (λ e. let pays' = simp e at pays in record { fuel = 8; meets = simp (z, e) (refl, refl, omega (arith, pays')) })
      (λ c e. by_option (char_at before.memory (at2 ⊞ pos i))
      (λ e2. let pays' = simp (e, e2) at pays in record { fuel = 8; meets = simp (z, e, e2) (refl, refl, omega (arith, pays')) })
      (λ c2 e2. by_test (nat_eq c c2)
      (λ t.
      let pays' = simp (e, e2, t) at pays in
      by_way (pair_loop n (i + 1) (pos c) (pos c2) (w + 8 + 8 + 28 + 8 + 28 + 8 + 8 + 8) (omega (arith, is)) small (omega (arith, pays'))) (λ f m. record { fuel = more 8 f; meets = simp (z, e, e2, t, up) m }))
      (λ t.
      let pays' = simp (e, e2, t) at pays in
      by_way (by_chars i c c2 (w + 8 + 8 + 28 + 8 + 28 + 8) (omega (arith, pays'))) (λ f m. record { fuel = more 6 f; meets = simp (z, e, e2, t) m }))))

  pub compare_goes : (i x a b : ℤ) (w : ℕ) → total < 2 ^ 62 → w + 120 * walk_visits (compare_turn before.memory at1 at2) 0 total (l1, l2) + 200 ≤ cost →
      Makes g (before.statement + 1) code 0 (record {
        state = record before { steps = before.steps + 1 };
        registers = record r { r1 = x; r2 = at2; r7 = pos total; r8 = pos l1; r9 = pos l2; r10 = i; r11 = pos 1; r12 = a; r13 = at1; r14 = b };
        scratch = words;
        failed = failed;
        spent = w;
      })
      (after_memory before (walk (compare_turn before.memory at1 at2) all_equal 0 total (l1, l2) >>= decided)) cost
  unfolding compare_code
  compare_goes i x a b w small pays = by_way (pair_loop total 0 x at2 (w + 8 + 8 + 8) (omega arith) small (omega (arith, pays))) (λ f y. record { fuel = more 3 f; meets = y })

-- ---- the lesser length

module _ (g : Setting) (next : ℕ) (rest : List Op) (inside : is_part rest ≡ true) (u : Micro) (step : Step) (cost : ℕ) where
  pub copies_length : Makes g next rest 0 (record u { registers = record u.registers { r8 = u.registers.r7 }; spent = u.spent + 8 }) step cost → Makes g next (joined first_length rest) 0 u step cost
  copies_length go = by_way (then_part first_length inside (omega arith) go) (λ f z. record { fuel = more 1 f; meets = z })

  pub copies_first : Makes g next rest 0 (record u { registers = record u.registers { r13 = u.registers.r2 }; spent = u.spent + 8 }) step cost → Makes g next (joined first_string rest) 0 u step cost
  copies_first go = by_way (then_part first_string inside (omega arith) go) (λ f z. record { fuel = more 1 f; meets = z })

module _ (g : Setting) (next : ℕ) (rest : List Op) (inside : is_part rest ≡ true) (step : Step) (cost : ℕ) (state : State) (failed : Option ℕ) (words : ℕ → ℤ) (r : Registers) where
  pub takes_shorter : (l1 l2 w : ℕ) →
      ((w' : ℕ) → w' ≤ w + 24 → Makes g next rest 0 (record { state = state; registers = record r { r7 = pos (shorter l1 l2); r8 = pos l1; r9 = pos l2 }; scratch = words; failed = failed; spent = w' }) step cost) →
      Makes g next (joined shorter_code rest) 0 (record { state = state; registers = record r { r7 = pos l2; r8 = pos l1 }; scratch = words; failed = failed; spent = w }) step cost
  unfolding shorter_code
  takes_shorter l1 l2 w go = by_test (nat_lt l1 l2)
      (λ t. by_way (then_part shorter_code inside (omega arith) (go (w + 8 + 8 + 8) (omega arith))) (λ f z. let y = simp t at z in record { fuel = more 3 f; meets = simp t y }))
      (λ t. by_way (then_part shorter_code inside (omega arith) (go (w + 8 + 8 + 8) (omega arith))) (λ f z. let y = simp t at z in record { fuel = more 3 f; meets = simp t y }))

shorter_few : (x y : ℕ) → x < 2 ^ 48 → y < 2 ^ 48 → shorter x y < 2 ^ 48
shorter_few x y h k = grind arith

module _ (k : ℕ) (s1 s2 : ℤ) (greater equal less : Option ℕ) (specials : Specials) where
  abbrev tail : List Op
  tail = compare_code (lead k greater) (lead k equal) (lead k less)

  abbrev from_second : List Op
  from_second = joined (first_code s2) tail

  abbrev from_copy : List Op
  from_copy = joined first_string from_second

  abbrev from_first : List Op
  from_first = joined (first_code s1) from_copy

  abbrev from_shorter : List Op
  from_shorter = joined shorter_code from_first

  abbrev from_length : List Op
  from_length = joined (length_code s2) from_shorter

  abbrev from_kept : List Op
  from_kept = joined first_length from_length

  abbrev rest : List Op
  rest = joined (length_code s1) from_kept

  abbrev pub lexcmp_code : List Op
  lexcmp_code = joined (start_code k) rest

  module _ (statements formats : ℕ) (w0 : nat_le (lead k greater) statements ≡ true) (w1 : nat_le (lead k equal) statements ≡ true) (w2 : nat_le (lead k less) statements ≡ true) where
    tail_part : IsPart statements formats 176 tail
    unfolding compare_code
    tail_part = record { part = refl; begins = refl; names = simp (w0, w1, w2); quiet = refl; weight = refl }

    second_part : IsPart statements formats 272 from_second
    second_part = both_parts (first_part statements formats s2) tail_part

    copy_part : IsPart statements formats 280 from_copy
    copy_part = both_parts {x = first_string} (record { part = refl; begins = refl; names = refl; quiet = refl; weight = refl }) second_part

    firsts_part : IsPart statements formats 376 from_first
    firsts_part = both_parts (first_part statements formats s1) copy_part

    short_part : IsPart statements formats 32 shorter_code
    unfolding shorter_code
    short_part = record { part = refl; begins = refl; names = refl; quiet = refl; weight = refl }

    shorter_part : IsPart statements formats 408 from_shorter
    shorter_part = both_parts short_part firsts_part

    lengths_part : IsPart statements formats 452 from_length
    lengths_part = both_parts (length_part statements formats s2) shorter_part

    kept_part : IsPart statements formats 460 from_kept
    kept_part = both_parts {x = first_length} (record { part = refl; begins = refl; names = refl; quiet = refl; weight = refl }) lengths_part

    rest_part : IsPart statements formats 504 rest
    rest_part = both_parts (length_part statements formats s1) kept_part

    pub lexcmp_piece : IsPiece k statements formats false lexcmp_code
    lexcmp_piece = whole_piece (start_first k statements formats) rest_part (omega arith)

  pub lexcmp_does : (statements formats : ℕ) → nat_le (lead k greater) statements ≡ true → nat_le (lead k equal) statements ≡ true → nat_le (lead k less) statements ≡ true →
      Does k lexcmp_code specials (Place s1 ∷ Place s2 ∷ Goto greater ∷ Goto equal ∷ Goto less ∷ []) (string_clause Lexcmp) (string_visits Lexcmp)
  unfolding string_clause lexcmp
  lexcmp_does statements formats w0 w1 w2 g program parameters u h =
      let before : State = at k u.state in
      let m = u.state.memory in
      let valid = h.valid.memory in
      let size = pos u.state.memory.limits.cell_size in
      let args = Place s1 ∷ Place s2 ∷ Goto greater ∷ Goto equal ∷ Goto less ∷ [] in
      let cost = 2000 + 400 * (5 + (4 + 2 * lexcmp_turns args m)) in
      let r = u.registers in
      start_goes g (k + 1) rest (rest_part statements formats w0 w1 w2).part k u _ cost h.left
      (length_goes g (k + 1) from_kept (kept_part statements formats w0 w1 w2).part before u.failed u.scratch r valid cost s1 52 _ (omega arith)
      (λ l1 few1 is1.
      copies_length g (k + 1) from_length (lengths_part statements formats w0 w1 w2).part _ _ cost
      (length_goes g (k + 1) from_shorter (shorter_part statements formats w0 w1 w2).part before u.failed u.scratch (record r { r1 = s1 ⊞ size; r7 = pos l1; r8 = pos l1 }) valid cost s2 (52 + 8 + 8 + 28 + 8) _ (omega arith)
      (λ l2 few2 is2.
      takes_shorter g (k + 1) from_first (firsts_part statements formats w0 w1 w2).part _ cost (record before { steps = before.steps + 1 }) u.failed u.scratch (record r { r1 = s2 ⊞ size; r4 = pos 0; r5 = size; r11 = pos 1 }) l1 l2 (52 + 8 + 8 + 28 + 8 + 8 + 8 + 28)
      (λ w short.
      let n = shorter l1 l2 in
      let few : n < 2 ^ 48 = shorter_few l1 l2 few1 few2 in
      first_goes g (k + 1) from_copy (copy_part statements formats w0 w1 w2).part before u.failed u.scratch (record r { r1 = s2 ⊞ size; r8 = pos l1; r9 = pos l2 }) valid cost s1 n w _ (omega (arith, short)) (omega (arith, few))
      (λ at1 x y z w' pays is3.
      copies_first g (k + 1) from_second (second_part statements formats w0 w1 w2).part _ _ cost
      (first_goes g (k + 1) tail (tail_part statements formats w0 w1 w2).part before u.failed u.scratch (record r { r1 = x; r2 = at1; r3 = y; r6 = z; r8 = pos l1; r9 = pos l2; r13 = at1 }) valid cost s2 n (w' + 8) _ (omega (arith, short, pays)) (omega (arith, few))
      (λ at2 x' y' z' w'' pays' is4.
      let counted : lexcmp_turns args m ≡ walk_visits (compare_turn m at1 at2) 0 n (l1, l2) = simp (is1, is2, is3, is4) refl in
      compare_goes g before u.failed u.scratch (record r { r3 = y'; r4 = pos 0; r5 = size; r6 = z' }) l1 l2 n cost at1 at2 greater equal less r.r10 x' r.r12 r.r14 w'' (omega (arith, few)) (omega (arith, short, pays, pays', counted))))))))))
