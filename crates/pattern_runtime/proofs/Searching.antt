-- The first pair of a block whose cell of a number is a key.
use Rattle.std.proofs.Common.{◌≡◌, ℕ, zero, suc, ◌+◌, ◌*◌, ◌≤◌, ◌<◌, ◌^◌, List, [], ◌∷◌, length, Option, Some, true, false, refl, arith, lit≤}
use Rattle.std.proofs.lemmas.Nat.{mul-le}
use Rattle.std.specs.Prelude.{ℤ, pos, int_lt, nat_eq, nat_le}
use Rattle.layout_params.specs.declared.cell.Cell.TheVariants.{Descr}
use Rattle.layout_params.specs.declared.cell.Descr.{Descr as Descriptor}
use Rattle.sil_model.specs.declared.program.Arg.{Arg}
use Rattle.sil_model.specs.declared.program.Arg.TheVariants.{Goto, Place}
use Rattle.sil_model.specs.declared.program.Specials.{Specials}
use Rattle.sil_model.specs.Access.{◌>>=◌, put_cell}
use Rattle.sil_model.specs.Arguments.{flow_to}
use Rattle.sil_model.specs.Effects.{MemoryEffect, on_memory}
use Rattle.sil_model.specs.Integers.{◌⊞◌, wrapped_difference, wrapped_product, wrapped_sum}
use Rattle.sil_model.specs.Memory.{IsMemory}
use Rattle.sil_model.specs.Sites.{Site}
use Rattle.sil_model.specs.States.{State}
use Rattle.sil_micro.specs.declared.op.Op.{Op}
use Rattle.sil_micro.specs.Expands.{Does, IsPiece, Makes, at}
use Rattle.sil_micro.specs.MicroStates.{Setting, Micro, Registers}
use Rattle.sil_micro.proofs.Making.{by_option, by_test, more, by_way}
use Rattle.exp_common.specs.Locations.{lead}
use Rattle.exp_common.proofs.Leads.{goes_to}
use Rattle.exp_common.proofs.Questions.{IsRead, by_read}
use Rattle.tree_clauses.specs.Loops.{walk, walk_visits}
use Rattle.tree_clauses.specs.PatternClauses.{deliver, found_at, located, pair_turn}
use Rattle.tree_clauses.specs.TreeTable.{pair_price, pair_visits}
use Rattle.pattern_runtime.specs.PatternParts.{search_code}
use Rattle.pattern_runtime.proofs.Linking.{after_memory}
use Rattle.pattern_runtime.proofs.Words.{add_pos, by_likeness, sub_one, times_pos}

module _ (g : Setting) (k : ℕ) (cell d1 d2 d3 : ℤ) (failure success : Option ℕ) (before : State) (valid : IsMemory before.memory) (failed : Option ℕ) (words : ℕ → ℤ) (r : Registers)
    (a : ℤ) (f v : ℕ) (block : IsRead before.memory.limits a f v) (ka : ℤ) (kf kv size : ℕ) (first : ℤ) (cost : ℕ) where
  abbrev key : Descriptor
  key = record { a = ka; f = kf; v = kv }

  abbrev place_in : ℕ → Micro → MemoryEffect → Type 0
  place_in place u effect = Makes g (before.statement + 1) (search_code k cell d1 d2 d3 (lead before.statement failure) (lead before.statement success)) place u (after_memory before effect) cost

  -- what is done with what is found
  abbrev answer : Option ℤ → MemoryEffect
  answer offset = deliver before.memory d1 (record { a = a; f = f; v = v }) (found_at (record { a = a; f = f; v = v }) offset) (flow_to failure) (flow_to success)

  -- the state at the loop's head
  abbrev at_pair : ℕ → ℤ → ℤ → ℤ → ℕ → Micro
  at_pair n offset x y w = record {
    state = record before { steps = before.steps + 1 };
    registers = record r { r1 = x; r2 = a; r3 = pos f; r4 = pos 0; r5 = pos 1; r6 = pos size; r7 = pos n; r8 = ka; r9 = pos kf; r10 = pos kv; r11 = first; r12 = offset; r13 = pos (2 * before.memory.limits.cell_size); r14 = y; r15 = pos v };
    scratch = words;
    failed = failed;
    spent = w;
  }

  -- a pair is found
  found_goes : (n : ℕ) (offset x y : ℤ) (w : ℕ) → w + 60 ≤ cost → place_in 33 (at_pair n offset x y w) (answer (Some offset))
  unfolding search_code
  found_goes n offset x y w pays = by_option (put_cell before.memory d1 (Descr (record { a = a ⊞ offset; f = f; v = v })))
      (λ e. record { fuel = 5; meets = simp (block.f_again, block.v_again, e) (refl, refl, omega (arith, pays)) })
      (λ cells e. record { fuel = 5; meets = simp (block.f_again, block.v_again, e, goes_to) (refl, omega (arith, pays)) })

  pair_loop : (n : ℕ) (offset x y : ℤ) (w : ℕ) → n < 2 ^ 62 → w + 200 * walk_visits (pair_turn before.memory first key size) (pair_price size) n offset + 200 ≤ cost →
      place_in 21 (at_pair n offset x y w) (walk (pair_turn before.memory first key size) n offset >>= answer)
  unfolding walk walk_visits search_code
  pair_loop zero offset x y w small pays = record { fuel = 4; meets = (refl, refl, omega (arith, pays)) }
  pair_loop (suc n) offset x y w small pays =
      let z : nat_eq (suc n) 0 ≡ false = grind arith in
      let down : wrapped_difference (pos (suc n)) (pos 1) ≡ pos n = sub_one n (omega (arith, small)) in
      let d = pos (2 * before.memory.limits.cell_size) in
      by_test (int_lt offset (pos size))
      (λ t. by_read before.memory (first ⊞ offset) valid
      (λ none. let pays' = simp (t, none) at pays in record { fuel = 6; meets = simp (z, down, t, none) (refl, refl, omega (arith, pays')) })
      (λ xa xf xv is read. by_likeness xa ka
      (λ same_a alike_a. by_test (nat_eq xf kf)
      (λ same_f. by_test (nat_eq xv kv)
      (λ same_v.
      let pays' = simp (t, is, same_a, same_f, same_v) at pays in
      by_way (found_goes n offset (first ⊞ offset) (pos xv) (w + 8 + 8 + 8 + 8 + 28 + 8 + 28 + 8 + 28 + 8) (omega (arith, pays')))
      (λ fuel m. record { fuel = more 10 fuel; meets = simp (z, down, t, is, same_a, alike_a, same_f, same_v) m }))
      (λ other_v.
      let pays' = simp (t, is, same_a, same_f, other_v) at pays in
      by_way (pair_loop n (offset ⊞ d) (first ⊞ offset) (pos xv) (w + 8 + 8 + 8 + 8 + 28 + 8 + 28 + 8 + 28 + 8 + 8 + 8) (omega (arith, small)) (omega (arith, pays')))
      (λ fuel m. record { fuel = more 12 fuel; meets = simp (z, down, t, is, same_a, alike_a, same_f, other_v) m })))
      (λ other_f.
      let pays' = simp (t, is, same_a, other_f) at pays in
      by_way (pair_loop n (offset ⊞ d) (first ⊞ offset) (pos xf) (w + 8 + 8 + 8 + 8 + 28 + 8 + 28 + 8 + 8 + 8) (omega (arith, small)) (omega (arith, pays')))
      (λ fuel m. record { fuel = more 10 fuel; meets = simp (z, down, t, is, same_a, alike_a, other_f) m })))
      (λ other_a differs.
      let pays' = simp (t, is, other_a) at pays in
      by_way (pair_loop n (offset ⊞ d) (first ⊞ offset) xa (w + 8 + 8 + 8 + 8 + 28 + 8 + 8 + 8) (omega (arith, small)) (omega (arith, pays')))
      (λ fuel m. record { fuel = more 8 fuel; meets = simp (z, down, t, is, other_a, differs) m }))))
      (λ t. let pays' = simp t at pays in record { fuel = 5; meets = simp (z, down, t, goes_to) (refl, omega (arith, pays')) })

module _ (k cell : ℕ) (d1 d2 d3 : ℤ) (failure success : Option ℕ) (specials : Specials) where
  abbrev args : List Arg
  args = Place d1 ∷ Place d2 ∷ Place d3 ∷ Goto failure ∷ Goto success ∷ []

  abbrev pub located_code : List Op
  located_code = search_code k (pos cell) d1 d2 d3 (lead k failure) (lead k success)

  abbrev pub located_visits : Site → State → ℕ
  located_visits site s = 4 + pair_visits cell site.args s.memory

  pub located_piece : (statements formats : ℕ) → nat_le (lead k failure) statements ≡ true → nat_le (lead k success) statements ≡ true → IsPiece k statements formats false located_code
  unfolding search_code
  located_piece statements formats w0 w1 = record { part = refl; begins = refl; once = refl; names = simp (w0, w1); quiet = refl; light = lit≤ tt }

  pub located_does : cell ≤ 2 → Does k located_code specials args (on_memory (located cell)) located_visits
  unfolding located pair_visits search_code
  located_does few g program parameters u h =
      let before : State = at k u.state in
      let m = u.state.memory in
      let valid = h.valid.memory in
      let d = m.limits.cell_size in
      by_read m d2 valid (λ none. record { fuel = 6; meets = simp (h.left, none) (refl, refl, lit≤ tt) }) (λ a f v is read.
      by_read m a valid (λ none. record { fuel = 9; meets = simp (h.left, is, none) (refl, refl, omega arith) }) (λ a2 f2 size is2 read2.
      by_test (nat_eq size 0)
      (λ t. record { fuel = 10; meets = simp (h.left, is, is2, t, goes_to) (refl, omega arith) })
      (λ t. by_read m d3 valid (λ none. record { fuel = 12; meets = simp (h.left, is, is2, t, none) (refl, refl, omega arith) }) (λ ka kf kv is3 read3.
      let key : Descriptor = record { a = ka; f = kf; v = kv } in
      let first = a ⊞ pos (cell * d) in
      let cost = 2000 + 400 * (5 + (4 + walk_visits (pair_turn m first key size) (pair_price size) (length m.cells + 1) (pos 0))) in
      let low : cell * d ≤ 2 * 64 = mul-le cell d 2 64 few valid.limits.most in
      let times : wrapped_product (pos cell) (pos d) ≡ pos (cell * d) = times_pos cell d (cell * d) refl (omega (arith, low)) in
      let two : wrapped_sum (pos d) (pos d) ≡ pos (2 * d) = add_pos d d (2 * d) (omega arith) (omega (arith, valid.limits.most)) in
      let turns : wrapped_sum (pos (length m.cells)) (pos 1) ≡ pos (length m.cells + 1) = add_pos (length m.cells) 1 (length m.cells + 1) refl (omega (arith, valid.count)) in
      by_way (pair_loop g k (pos cell) d1 d2 d3 failure success before valid u.failed u.scratch u.registers a f v read ka kf kv size first cost (length m.cells + 1) (pos 0) d3 u.registers.r14
      (28 + 8 + 8 + 8 + 28 + 28 + 28 + 28 + 8 + 8 + 28 + 28 + 28 + 8 + 8 + 8 + 8 + 8 + 8 + 8 + 8) (omega (arith, valid.count)) (omega arith))
      (λ fuel y. record { fuel = more 21 fuel; meets = simp (h.left, is, is2, t, is3, times, two, turns) y })))))
