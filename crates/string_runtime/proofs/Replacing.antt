-- Characters that are replaced, by a table in the scratch words.
use Rattle.std.proofs.Common.{◌≡◌, ◌≢◌, ◌⊎◌, inl, inr, ℕ, zero, suc, ◌+◌, ◌*◌, ◌≤◌, ◌<◌, ◌^◌, List, [], ◌∷◌, length, replicate, Option, Some, None, true, false, refl, ap, subst, sym, ◌∙◌, arith}
use Rattle.std.proofs.lemmas.Bool.{cases_eq}
use Rattle.std.proofs.lemmas.Bool.Decides.{nat_tests}
use Rattle.std.proofs.lemmas.List.{length-set, length-replicate}
use Rattle.std.specs.Prelude.{ℤ, pos, nat_eq, nat_lt, IfSome, slice_get, slice_set, ◌==◌, if◌then◌else◌}
use Rattle.sil_macros.specs.declared.names.Macro.TheVariants.{Rplace}
use Rattle.sil_model.specs.declared.program.Arg.TheVariants.{Place}
use Rattle.sil_model.specs.declared.program.Specials.{Specials}
use Rattle.sil_model.specs.Access.{◌>>=◌, char_at, set_char_at}
use Rattle.sil_model.specs.Effects.{MemoryEffect, onward}
use Rattle.sil_model.specs.Integers.{◌⊞◌, wrapped_sum, wrapped_difference}
use Rattle.sil_model.specs.Memory.{Memory, IsMemory}
use Rattle.sil_model.specs.States.{State, Step}
use Rattle.sil_model.proofs.Characters.{writes_set_char}
use Rattle.sil_model.proofs.Keeps.{all_at, followed}
use Rattle.sil_model.proofs.Places.{set_here, set_there}
use Rattle.sil_micro.specs.declared.op.Op.{Op}
use Rattle.sil_micro.specs.Expands.{Does, IsPiece, Makes, at}
use Rattle.sil_micro.specs.MicroStates.{Setting, Micro, Registers}
use Rattle.sil_micro.specs.Operations.{with_word}
use Rattle.sil_micro.specs.Pieces.{joined, is_part}
use Rattle.sil_micro.proofs.Making.{by_option, by_test, more, by_way, then_part}
use Rattle.exp_common.proofs.JoinedParts.{IsPart, both_parts, whole_piece}
use Rattle.string_clauses.specs.StringClauses.{nothing_stands, pair_turn, replace_turn, replaced_all, rplace}
use Rattle.string_clauses.specs.StringTable.{or_none, replace_turns, rplace_turns, string_clause, string_visits}
use Rattle.string_clauses.specs.Walks.{each, each_visits}
use Rattle.string_clauses.proofs.Room.{char_is_byte}
use Rattle.string_clauses.proofs.StringKeeps.{AreBytes, pairs_give}
use Rattle.string_runtime.specs.StringParts.{first_code, keep_first, keep_second, length_code, replace_code, start_code}
use Rattle.string_runtime.proofs.StringHeads.{after_memory, first_goes, first_part, length_goes, length_part, start_first, start_goes}
use Rattle.exp_common.proofs.Words.{add_pos, low_of_byte, sub_one}

-- ---- the table in words: 0 where nothing stands, else one more than the character

abbrev entry_word : Option (Option ℕ) → ℤ
entry_word (Some (Some y)) = pos (suc y)
entry_word _ = pos 0

abbrev HoldsTable : (ℕ → ℤ) → List (Option ℕ) → Type 0
HoldsTable words table = (c : ℕ) → c < 256 → words c ≡ entry_word (slice_get table c)

nothing_word : (n c : ℕ) → entry_word (slice_get (replicate n None) c) ≡ pos 0
nothing_word zero c = refl
nothing_word (suc n) zero = refl
nothing_word (suc n) (suc c) = nothing_word n c

holds_nothing : (words : ℕ → ℤ) → ((c : ℕ) → c < 256 → words c ≡ pos 0) → HoldsTable words nothing_stands
holds_nothing words none c lt = none c lt ∙ sym (nothing_word 256 c)

word_here : (words : ℕ → ℤ) (i : ℕ) (value : ℤ) → with_word words i value i ≡ value
unfolding with_word
word_here words i value = (let same : nat_eq i i ≡ true = grind arith in simp same refl)

word_there : (words : ℕ → ℤ) (i j : ℕ) (value : ℤ) → j ≢ i → with_word words i value j ≡ words j
unfolding with_word
word_there words i j value ne = (let other : nat_eq j i ≡ false = grind (arith, nat_tests) in simp other refl)

cleared_more : (c : ℕ) (words : ℕ → ℤ) (i : ℕ) → c < i + 1 → ((j : ℕ) → j < i → words j ≡ pos 0) → with_word words i (pos 0) c ≡ pos 0
cleared_more c words i lt cleared = by (cases_eq c i)
  where
    by : (c ≡ i) ⊎ (c ≢ i) → with_word words i (pos 0) c ≡ pos 0
    by (inl e) = subst (λ j. with_word words i (pos 0) j ≡ pos 0) (sym e) (word_here words i (pos 0))
    by (inr ne) = word_there words i c (pos 0) ne ∙ cleared c (omega (arith, lt))

holds_more : (words : ℕ → ℤ) (table : List (Option ℕ)) (x y : ℕ) → HoldsTable words table → length table ≡ 256 → x < 256 → HoldsTable (with_word words x (pos (suc y))) (slice_set table x (Some y))
holds_more words table x y held long below c lt = by (cases_eq c x)
  where
    by : (c ≡ x) ⊎ (c ≢ x) → with_word words x (pos (suc y)) c ≡ entry_word (slice_get (slice_set table x (Some y)) c)
    by (inl e) = subst (λ j. with_word words x (pos (suc y)) j ≡ entry_word (slice_get (slice_set table x (Some y)) j)) (sym e) (word_here words x (pos (suc y)) ∙ ap entry_word (sym (set_here table x (Some y) (omega (arith, below, long)))))
    by (inr ne) = word_there words x c (pos (suc y)) ne ∙ held c lt ∙ ap entry_word (sym (set_there table x c (Some y) ne))

module _ (g : Setting) (before : State) (valid : IsMemory before.memory) (failed : Option ℕ) (r : Registers) (at1 at2 at3 : ℤ) (l1 l2 l3 cost : ℕ) where
  abbrev place_in : ℕ → Micro → MemoryEffect → Type 0
  place_in place u effect = Makes g (before.statement + 1) replace_code place u (after_memory before effect) cost

  abbrev in_table : ℕ → ℤ → ℤ → (ℕ → ℤ) → Memory → ℕ → Micro
  in_table i x y words m w = record {
    state = record before { memory = m; steps = before.steps + 1 };
    registers = record r { r1 = x; r2 = at3; r3 = y; r4 = pos 0; r7 = pos l3; r8 = pos 256; r10 = pos i; r11 = pos 1; r12 = at1; r13 = pos l1; r14 = at2; r15 = pos l2 };
    scratch = words;
    failed = failed;
    spent = w;
  }

  clear_loop : (n i : ℕ) (x y : ℤ) (words : ℕ → ℤ) (w : ℕ) (effect : MemoryEffect) → i + n ≡ 256 → ((c : ℕ) → c < i → words c ≡ pos 0) →
      ((words' : ℕ → ℤ) (w' : ℕ) → ((c : ℕ) → c < 256 → words' c ≡ pos 0) → w' ≤ w + 52 * n + 8 → place_in 9 (in_table 256 x y words' before.memory w') effect) → place_in 5 (in_table i x y words before.memory w) effect
  unfolding replace_code
  clear_loop zero i x y words w effect is cleared exit =
      let e : i ≡ 256 = omega (arith, is) in
      by_way (exit words (w + 8) (λ c lt. cleared c (omega (arith, lt, e))) (omega arith)) (λ f z. record { fuel = suc f; meets = simp e z })
  clear_loop (suc n) i x y words w effect is cleared exit =
      let z : nat_eq i 256 ≡ false = grind (arith, nat_tests) in
      let t : nat_lt i 8190 ≡ true = grind (arith, nat_tests) in
      let up : wrapped_sum (pos i) (pos 1) ≡ pos (i + 1) = add_pos i 1 (i + 1) refl (omega (arith, is)) in
      by_way (clear_loop n (i + 1) x y (with_word words i (pos 0)) (w + 8 + 28 + 8 + 8) effect (omega (arith, is)) (λ c lt. cleared_more c words i lt cleared) (λ words' w' none le. exit words' w' none (omega (arith, le))))
      (λ f y'. record { fuel = more 4 f; meets = simp (z, t, up) y' })

  pair_loop : (n i : ℕ) (table : List (Option ℕ)) (x y : ℤ) (words : ℕ → ℤ) (w : ℕ) (go : List (Option ℕ) → MemoryEffect) → i + n ≡ l2 → l2 < 2 ^ 62 → length table ≡ 256 → HoldsTable words table → w + 150 * each_visits (pair_turn before.memory at2 at3) i n table + 100 ≤ cost →
      ((table' : List (Option ℕ)) (x y : ℤ) (words' : ℕ → ℤ) (w' : ℕ) → each (pair_turn before.memory at2 at3) i n table ≡ Some table' → HoldsTable words' table' → w' ≤ w + 150 * each_visits (pair_turn before.memory at2 at3) i n table + 8 → place_in 19 (in_table l2 x y words' before.memory w') (go table')) →
      place_in 10 (in_table i x y words before.memory w) (each (pair_turn before.memory at2 at3) i n table >>= go)
  unfolding each each_visits pair_turn replace_code
  pair_loop zero i table x y words w go is small long held pays exit =
      let e : i ≡ l2 = omega (arith, is) in
      let z : nat_eq l2 l2 ≡ true = grind arith in
      by_way (exit table x y words (w + 8) refl held (omega arith)) (λ f v. record { fuel = suc f; meets = simp (e, z) v })
  pair_loop (suc n) i table x y words w go is small long held pays exit =
      let z : nat_eq i l2 ≡ false = grind arith in
      let up : wrapped_sum (pos i) (pos 1) ≡ pos (i + 1) = add_pos i 1 (i + 1) refl (omega (arith, is, small)) in
      by_option (char_at before.memory (at2 ⊞ pos i))
      (λ e. let pays' = simp e at pays in record { fuel = 10; meets = simp (z, e) (refl, refl, omega (arith, pays')) })
      (λ c e. by_option (char_at before.memory (at3 ⊞ pos i))
      (λ e2. let pays' = simp (e, e2) at pays in record { fuel = 10; meets = simp (z, e, e2) (refl, refl, omega (arith, pays')) })
      (λ c2 e2.
      let pays' = simp (e, e2) at pays in
      let byte = char_is_byte before.memory (at2 ⊞ pos i) c valid e in
      let byte2 = char_is_byte before.memory (at3 ⊞ pos i) c2 valid e2 in
      let t : nat_lt c 8190 ≡ true = grind (arith, nat_tests) in
      let one : wrapped_sum (pos c2) (pos 1) ≡ pos (suc c2) = add_pos c2 1 (suc c2) (omega arith) (omega (arith, byte2)) in
      let long' = length-set table c (Some c2) ∙ long in
      by_way (pair_loop n (i + 1) (slice_set table c (Some c2)) (pos c) (pos (suc c2)) (with_word words c (pos (suc c2))) (w + 8 + 8 + 28 + 8 + 28 + 8 + 28 + 8 + 8) go (omega (arith, is)) small long' (holds_more words table c c2 held long byte) (omega (arith, pays'))
      (λ table' x' y' words' w' is' held' le. exit table' x' y' words' w' (simp (e, e2) is') held' (simp (e, e2) (omega (arith, le)))))
      (λ f v. record { fuel = more 9 f; meets = simp (z, e, e2, one, t, up) v })))

  replace_loop : (n i : ℕ) (table : List (Option ℕ)) (m : Memory) (x y : ℤ) (words : ℕ → ℤ) (w : ℕ) → i + n ≡ l1 → l1 < 2 ^ 62 → AreBytes table → HoldsTable words table → IsMemory m → w + 150 * each_visits (replace_turn table at1) i n m + 100 ≤ cost →
      place_in 20 (in_table i x y words m w) (onward (each (replace_turn table at1) i n m))
  unfolding each each_visits replace_turn replace_code
  replace_loop zero i table m x y words w is small bytes held h pays =
      let e : i ≡ l1 = omega (arith, is) in
      let z : nat_eq l1 l1 ≡ true = grind arith in
      record { fuel = 3; meets = simp (e, z) (refl, omega (arith, pays)) }
  replace_loop (suc n) i table m x y words w is small bytes held h pays =
      let z : nat_eq i l1 ≡ false = grind arith in
      let up : wrapped_sum (pos i) (pos 1) ≡ pos (i + 1) = add_pos i 1 (i + 1) refl (omega (arith, is, small)) in
      by_option (char_at m (at1 ⊞ pos i))
      (λ e. let pays' = simp e at pays in record { fuel = 10; meets = simp (z, e) (refl, refl, omega (arith, pays')) })
      (λ c e.
      let byte = char_is_byte m (at1 ⊞ pos i) c h e in
      let t : nat_lt c 8190 ≡ true = grind (arith, nat_tests) in
      let word = held c byte in
      by_option (slice_get table c)
      (λ q.
      let pays' = simp (e, q) at pays in
      let word' = simp q at word in
      by_way (replace_loop n (i + 1) table m (at1 ⊞ pos i) (pos 0) words (w + 8 + 8 + 28 + 28 + 8 + 8 + 8) (omega (arith, is)) small bytes held h (omega (arith, pays')))
      (λ f v. record { fuel = more 7 f; meets = simp (z, e, t, word', q, up) v }))
      (λ o q. by_option o
      (λ none.
      let pays' = simp (e, q, none) at pays in
      let word' = simp (q, none) at word in
      by_way (replace_loop n (i + 1) table m (at1 ⊞ pos i) (pos 0) words (w + 8 + 8 + 28 + 28 + 8 + 8 + 8) (omega (arith, is)) small bytes held h (omega (arith, pays')))
      (λ f v. record { fuel = more 7 f; meets = simp (z, e, t, word', q, none, up) v }))
      (λ c2 some.
      let word' = simp (q, some) at word in
      let small2 : c2 < 256 = all_at (λ (z : Option ℕ). IfSome z (λ v. v < 256)) table c (Some c2) bytes (q ∙ ap Some some) in
      let nz : nat_eq (suc c2) 0 ≡ false = grind arith in
      let down : wrapped_difference (pos (suc c2)) (pos 1) ≡ pos c2 = sub_one c2 (omega (arith, small2)) in
      let low = low_of_byte c2 small2 in
      by_option (set_char_at m (at1 ⊞ pos i) c2)
      (λ none. let pays' = simp (e, q, some, none) at pays in record { fuel = 10; meets = simp (z, e, t, word', q, some, nz, down, low, none) (refl, refl, omega (arith, pays')) })
      (λ m' set.
      let pays' = simp (e, q, some, set) at pays in
      let kept = followed m m' (set_char_at m (at1 ⊞ pos i) c2) (writes_set_char m (at1 ⊞ pos i) c2 h small2) set in
      by_way (replace_loop n (i + 1) table m' (at1 ⊞ pos i) (pos c2) words (w + 8 + 8 + 28 + 28 + 8 + 8 + 28 + 8 + 8) (omega (arith, is)) small bytes held kept.is_memory (omega (arith, pays')))
      (λ f v. record { fuel = more 9 f; meets = simp (z, e, t, word', q, some, nz, down, low, set, up) v })))))

  abbrev all_turns : ℕ
  all_turns = or_none (if l2 == l3 then Some (each_visits (pair_turn before.memory at2 at3) 0 l2 nothing_stands + replace_turns at1 l1 before.memory (each (pair_turn before.memory at2 at3) 0 l2 nothing_stands)) else None)

  replaces_goes : (x y c e : ℤ) (words : ℕ → ℤ) (w : ℕ) → l1 < 2 ^ 62 → l2 < 2 ^ 62 → w + 150 * all_turns + 14000 ≤ cost →
      Makes g (before.statement + 1) replace_code 0 (record {
        state = record before { steps = before.steps + 1 };
        registers = record r { r1 = x; r2 = at3; r3 = y; r4 = pos 0; r7 = pos l3; r8 = c; r10 = e; r11 = pos 1; r12 = at1; r13 = pos l1; r14 = at2; r15 = pos l2 };
        scratch = words;
        failed = failed;
        spent = w;
      }) (after_memory before (replaced_all before.memory at1 l1 at2 l2 at3 l3)) cost
  unfolding replace_code
  replaces_goes x y c e words w few1 few2 pays = by_test (nat_eq l2 l3)
      (λ t.
      let pays' = simp t at pays in
      by_way (clear_loop 256 0 x y words (w + 8 + 8 + 8) (each (pair_turn before.memory at2 at3) 0 l2 nothing_stands >>= (λ table. onward (each (replace_turn table at1) 0 l1 before.memory))) (omega arith) (λ j lt. absurd (omega (arith, lt)))
      (λ words1 w1 none le1.
      by_way (pair_loop l2 0 nothing_stands x y words1 (w1 + 8) (λ table. onward (each (replace_turn table at1) 0 l1 before.memory)) (omega arith) few2 (length-replicate {A = Option ℕ} 256 None) (holds_nothing words1 none) (omega (arith, pays', le1))
      (λ table x' y' words2 w2 is held le2.
      let pays2 = simp is at pays' in
      by_way (replace_loop l1 0 table before.memory x' y' words2 (w2 + 8) (omega arith) few1 (pairs_give before.memory at2 at3 l2 table valid is) held valid (omega (arith, pays2, le1, le2))) (λ f v. record { fuel = more 1 f; meets = v })))
      (λ f v. record { fuel = more 1 f; meets = v })))
      (λ f v. record { fuel = more 3 f; meets = simp t v }))
      (λ t. record { fuel = 4; meets = simp t (refl, refl, omega (arith, pays)) })

module _ (g : Setting) (next : ℕ) (rest : List Op) (inside : is_part rest ≡ true) (u : Micro) (step : Step) (cost : ℕ) where
  keeps_first : Makes g next rest 0 (record u { registers = record u.registers { r12 = u.registers.r2; r13 = u.registers.r7 }; spent = u.spent + 8 + 8 }) step cost → Makes g next (joined keep_first rest) 0 u step cost
  keeps_first go = by_way (then_part keep_first inside (omega arith) go) (λ f z. record { fuel = more 2 f; meets = z })

  keeps_second : Makes g next rest 0 (record u { registers = record u.registers { r14 = u.registers.r2; r15 = u.registers.r7 }; spent = u.spent + 8 + 8 }) step cost → Makes g next (joined keep_second rest) 0 u step cost
  keeps_second go = by_way (then_part keep_second inside (omega arith) go) (λ f z. record { fuel = more 2 f; meets = z })

module _ (k : ℕ) (s1 s2 s3 : ℤ) (specials : Specials) where
  abbrev from_first3 : List Op
  from_first3 = joined (first_code s3) replace_code

  abbrev from_length3 : List Op
  from_length3 = joined (length_code s3) from_first3

  abbrev from_second : List Op
  from_second = joined keep_second from_length3

  abbrev from_first2 : List Op
  from_first2 = joined (first_code s2) from_second

  abbrev from_length2 : List Op
  from_length2 = joined (length_code s2) from_first2

  abbrev from_kept : List Op
  from_kept = joined keep_first from_length2

  abbrev from_first1 : List Op
  from_first1 = joined (first_code s1) from_kept

  abbrev rest : List Op
  rest = joined (length_code s1) from_first1

  abbrev pub rplace_code : List Op
  rplace_code = joined (start_code k) rest

  module _ (statements formats : ℕ) where
    replace_part : IsPart statements formats 392 replace_code
    unfolding replace_code
    replace_part = record { part = refl; begins = refl; names = refl; quiet = refl; weight = refl }

    first3_part : IsPart statements formats 488 from_first3
    first3_part = both_parts (first_part statements formats s3) replace_part

    length3_part : IsPart statements formats 532 from_length3
    length3_part = both_parts (length_part statements formats s3) first3_part

    second_part : IsPart statements formats 548 from_second
    second_part = both_parts {x = keep_second} (record { part = refl; begins = refl; names = refl; quiet = refl; weight = refl }) length3_part

    first2_part : IsPart statements formats 644 from_first2
    first2_part = both_parts (first_part statements formats s2) second_part

    length2_part : IsPart statements formats 688 from_length2
    length2_part = both_parts (length_part statements formats s2) first2_part

    kept_part : IsPart statements formats 704 from_kept
    kept_part = both_parts {x = keep_first} (record { part = refl; begins = refl; names = refl; quiet = refl; weight = refl }) length2_part

    first1_part : IsPart statements formats 800 from_first1
    first1_part = both_parts (first_part statements formats s1) kept_part

    rest_part : IsPart statements formats 844 rest
    rest_part = both_parts (length_part statements formats s1) first1_part

    pub rplace_piece : IsPiece k statements formats false rplace_code
    rplace_piece = whole_piece (start_first k statements formats) rest_part (omega arith)

  pub rplace_does : Does k rplace_code specials (Place s1 ∷ Place s2 ∷ Place s3 ∷ []) (string_clause Rplace) (string_visits Rplace)
  unfolding string_clause rplace
  rplace_does g program parameters u h =
      let before : State = at k u.state in
      let m = u.state.memory in
      let valid = h.valid.memory in
      let size = pos u.state.memory.limits.cell_size in
      let args = Place s1 ∷ Place s2 ∷ Place s3 ∷ [] in
      let cost = 2000 + 400 * (3 + (262 + 2 * rplace_turns args m)) in
      let r = u.registers in
      start_goes g (k + 1) rest (rest_part 0 0).part k u _ cost h.left
      (length_goes g (k + 1) from_first1 (first1_part 0 0).part before u.failed u.scratch r valid cost s1 52 _ (omega arith)
      (λ l1 few1 is1.
      first_goes g (k + 1) from_kept (kept_part 0 0).part before u.failed u.scratch (record r { r1 = s1 ⊞ size }) valid cost s1 l1 (52 + 8 + 8 + 28) _ (omega arith) (omega (arith, few1))
      (λ at1 x y z w1 le1 at1_is.
      keeps_first g (k + 1) from_length2 (length2_part 0 0).part _ _ cost
      (length_goes g (k + 1) from_first2 (first2_part 0 0).part before u.failed u.scratch (record r { r1 = x; r2 = at1; r3 = y; r6 = z; r7 = pos l1; r12 = at1; r13 = pos l1 }) valid cost s2 (w1 + 8 + 8) _ (omega (arith, le1))
      (λ l2 few2 is2.
      first_goes g (k + 1) from_second (second_part 0 0).part before u.failed u.scratch (record r { r1 = s2 ⊞ size; r2 = at1; r3 = y; r6 = z; r12 = at1; r13 = pos l1 }) valid cost s2 l2 (w1 + 8 + 8 + 8 + 8 + 28) _ (omega (arith, le1)) (omega (arith, few2))
      (λ at2 x2 y2 z2 w2 le2 at2_is.
      keeps_second g (k + 1) from_length3 (length3_part 0 0).part _ _ cost
      (length_goes g (k + 1) from_first3 (first3_part 0 0).part before u.failed u.scratch (record r { r1 = x2; r2 = at2; r3 = y2; r6 = z2; r7 = pos l2; r12 = at1; r13 = pos l1; r14 = at2; r15 = pos l2 }) valid cost s3 (w2 + 8 + 8) _ (omega (arith, le1, le2))
      (λ l3 few3 is3.
      first_goes g (k + 1) replace_code (replace_part 0 0).part before u.failed u.scratch (record r { r1 = s3 ⊞ size; r2 = at2; r3 = y2; r6 = z2; r12 = at1; r13 = pos l1; r14 = at2; r15 = pos l2 }) valid cost s3 l3 (w2 + 8 + 8 + 8 + 8 + 28) _ (omega (arith, le1, le2)) (omega (arith, few3))
      (λ at3 x3 y3 z3 w3 le3 at3_is.
      let turns : rplace_turns args m ≡ all_turns g before valid u.failed r at1 at2 at3 l1 l2 l3 cost = simp (is1, at1_is, is2, at2_is, is3, at3_is) refl in
      replaces_goes g before valid u.failed (record r { r5 = size; r6 = z3 }) at1 at2 at3 l1 l2 l3 cost x3 y3 r.r8 r.r10 u.scratch w3 (omega (arith, few1)) (omega (arith, few2)) (omega (arith, le1, le2, le3, turns)))))))))))
