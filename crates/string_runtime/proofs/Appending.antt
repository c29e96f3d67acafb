-- The characters of one string behind those of another.
use Rattle.std.proofs.Common.{◌≡◌, ℕ, zero, suc, ◌+◌, ◌*◌, ◌≤◌, ◌<◌, ◌^◌, [], ◌∷◌, Option, Some, true, false, refl, arith, lit≤}
use Rattle.std.specs.Prelude.{ℤ, pos, nat_eq}
use Rattle.sil_macros.specs.declared.names.Macro.TheVariants.{Apdsp}
use Rattle.sil_model.specs.declared.program.Arg.TheVariants.{Place}
use Rattle.sil_model.specs.declared.program.Specials.{Specials}
use Rattle.sil_model.specs.Access.{◌>>=◌, char_at, put_char, set_char_at, set_v_at}
use Rattle.sil_model.specs.Effects.{MemoryEffect, onward}
use Rattle.sil_model.specs.Integers.{◌⊞◌, wrapped_sum}
use Rattle.sil_model.specs.Memory.{Memory, IsMemory}
use Rattle.sil_model.specs.States.{State}
use Rattle.sil_model.proofs.Characters.{writes_set_char}
use Rattle.sil_model.proofs.Keeps.{followed}
use Rattle.sil_micro.specs.Expands.{Does, Makes, at}
use Rattle.sil_micro.specs.MicroStates.{Setting, Micro, Registers}
use Rattle.sil_micro.proofs.Making.{by_option, more, by_way}
use Rattle.exp_common.proofs.Questions.{by_read}
use Rattle.string_clauses.specs.StringClauses.{apdsp, copy_char}
use Rattle.string_clauses.specs.StringTable.{string_clause, string_visits}
use Rattle.string_clauses.specs.Walks.{each, each_visits}
use Rattle.string_clauses.proofs.Room.{char_is_byte}
use Rattle.string_runtime.specs.StringParts.{append_code}
use Rattle.string_runtime.proofs.StringHeads.{after_memory}
use Rattle.exp_common.proofs.Words.{add_pos, low_of_byte}

module _ (g : Setting) (k : ℕ) (s1 s2 : ℤ) (before : State) (failed : Option ℕ) (words : ℕ → ℤ) (r : Registers) (to from : ℤ) (total cost : ℕ) where
  -- the state at the loop's head, and behind the loop
  abbrev at_char : ℕ → Memory → ℤ → ℤ → ℕ → Micro
  at_char i m a b w = record {
    state = record before { memory = m; steps = before.steps + 1 };
    registers = record r { r2 = to; r7 = from; r9 = pos total; r10 = pos i; r11 = pos 1; r12 = a; r13 = b };
    scratch = words;
    failed = failed;
    spent = w;
  }

  copy_loop : (n i : ℕ) (m : Memory) (a b : ℤ) (w : ℕ) (go : Memory → MemoryEffect) → i + n ≡ total → total < 2 ^ 62 → IsMemory m → w + 100 * each_visits (copy_char to from) i n m + 200 ≤ cost →
      ((m' : Memory) (a b : ℤ) (w' : ℕ) → w' + 100 ≤ cost → Makes g (before.statement + 1) (append_code k s1 s2) 25 (at_char total m' a b w') (after_memory before (go m')) cost) →
      Makes g (before.statement + 1) (append_code k s1 s2) 18 (at_char i m a b w) (after_memory before (each (copy_char to from) i n m >>= go)) cost
  unfolding each each_visits copy_char append_code
  copy_loop zero i m a b w go is small valid pays exit =
      let e : i ≡ total = omega (arith, is) in
      let z : nat_eq total total ≡ true = grind arith in
      by_way (exit m a b (w + 8) (omega (arith, pays))) (λ f y. record { fuel = suc f; meets = simp (e, z) y })
  copy_loop (suc n) i m a b w go is small valid pays exit =
      let z : nat_eq i total ≡ false = grind arith in
      let up : wrapped_sum (pos i) (pos 1) ≡ pos (i + 1) = add_pos i 1 (i + 1) refl (omega (arith, is, small)) in
      by_option (char_at m (from ⊞ pos i))
      (λ e. let pays' = simp e at pays in record { fuel = 8; meets = simp (z, e) (refl, refl, omega (arith, pays')) })
      (λ c e.
      let byte = char_is_byte m (from ⊞ pos i) c valid e in
      let low = low_of_byte c byte in
      by_option (put_char m (to ⊞ pos i) c)
      (λ q. let pays' = simp (e, q) at pays in record { fuel = 8; meets = simp (z, e, low, q) (refl, refl, omega (arith, pays')) })
      (λ cells q.
      let pays' = simp (e, q) at pays in
      let m' : Memory = record m { cells = cells } in
      let set : set_char_at m (to ⊞ pos i) c ≡ Some m' = simp q refl in
      let kept = followed m m' (set_char_at m (to ⊞ pos i) c) (writes_set_char m (to ⊞ pos i) c valid byte) set in
      by_way (copy_loop n (i + 1) m' (to ⊞ pos i) (pos c) (w + 8 + 8 + 28 + 8 + 28 + 8 + 8) go (omega (arith, is)) small kept.is_memory (omega (arith, pays')) exit)
      (λ f y. record { fuel = more 7 f; meets = simp (z, e, low, q, up) y })))

module _ (k : ℕ) (s1 s2 : ℤ) (specials : Specials) where
  pub apdsp_does : Does k (append_code k s1 s2) specials (Place s1 ∷ Place s2 ∷ []) (string_clause Apdsp) (string_visits Apdsp)
  unfolding string_clause apdsp append_code
  apdsp_does g program parameters u h =
      let before : State = at k u.state in
      let m = u.state.memory in
      let valid = h.valid.memory in
      let d = pos m.limits.cell_size in
      by_read m s1 valid (λ none. record { fuel = 20; meets = simp (h.left, none) (refl, refl, lit≤ tt) }) (λ a1 f1 v1 is1 read1.
      by_read m (s1 ⊞ d) valid (λ none. record { fuel = 20; meets = simp (h.left, is1, none) (refl, refl, lit≤ tt) }) (λ o1 g1 l1 is2 read2.
      by_read m s2 valid (λ none. record { fuel = 20; meets = simp (h.left, is1, is2, none) (refl, refl, lit≤ tt) }) (λ a2 f2 v2 is3 read3.
      by_read m (s2 ⊞ d) valid (λ none. record { fuel = 20; meets = simp (h.left, is1, is2, is3, none) (refl, refl, lit≤ tt) }) (λ o2 g2 l2 is4 read4.
      let to = a1 ⊞ o1 ⊞ pos l1 in
      let from = a2 ⊞ o2 in
      let sum : wrapped_sum (pos l1) (pos l2) ≡ pos (l1 + l2) = add_pos l1 l2 (l1 + l2) refl (omega (arith, read2.value, read4.value)) in
      let cost = 2000 + 400 * (2 + (5 + 2 * each_visits (copy_char to from) 0 l2 m)) in
      let r : Registers = record u.registers { r1 = s2 ⊞ d; r3 = o1; r4 = pos (l1 + l2); r5 = d; r6 = s1 ⊞ d; r8 = o2 } in
      let go : Memory → MemoryEffect = λ m'. onward (set_v_at m' (s1 ⊞ d) (pos (l1 + l2))) in
      by_way (copy_loop g k s1 s2 before u.failed u.scratch r to from l2 cost l2 0 m u.registers.r12 u.registers.r13 (28 + 8 + 28 + 8 + 8 + 28 + 28 + 8 + 8 + 8 + 28 + 8 + 28 + 28 + 8 + 8 + 8 + 8) go (omega arith) (omega (arith, read4.value)) valid (omega arith)
      (λ m' x y w pays.
      by_option (set_v_at m' (s1 ⊞ d) (pos (l1 + l2))) (λ none. record { fuel = 4; meets = simp none (refl, refl, omega (arith, pays)) }) (λ after set. record { fuel = 4; meets = simp set (refl, omega (arith, pays)) })))
      (λ fuel y. record { fuel = more 18 fuel; meets = simp (h.left, is1, is2, is3, is4, sum) y })))))
