-- A specifier without its blanks at the end.
use Rattle.std.proofs.Common.{◌≡◌, ℕ, zero, suc, ◌+◌, ◌-◌, ◌*◌, ◌≤◌, ◌<◌, ◌^◌, [], ◌∷◌, Option, false, refl, arith, lit≤}
use Rattle.std.specs.Prelude.{ℤ, pos, nat_eq}
use Rattle.layout_params.specs.declared.cell.Cell.TheVariants.{Descr as Describes}
use Rattle.sil_macros.specs.declared.names.Macro.TheVariants.{Trimsp}
use Rattle.sil_model.specs.declared.program.Arg.TheVariants.{Place}
use Rattle.sil_model.specs.declared.program.Specials.{Specials}
use Rattle.sil_model.specs.Access.{◌>>=◌, char_at, put_cell}
use Rattle.sil_model.specs.Effects.{MemoryEffect, onward}
use Rattle.sil_model.specs.Integers.{◌⊞◌, wrapped_difference}
use Rattle.sil_model.specs.Specifiers.{set_spec_at}
use Rattle.sil_model.specs.States.{State}
use Rattle.sil_model.proofs.Keeps.{within_limit}
use Rattle.sil_micro.specs.Expands.{Does, Makes, at}
use Rattle.sil_micro.specs.MicroStates.{Setting, Micro, Registers}
use Rattle.sil_micro.proofs.Fields.{fits_within}
use Rattle.sil_micro.proofs.Making.{by_option, by_test, more, by_way}
use Rattle.exp_common.proofs.Questions.{by_read, zero_within}
use Rattle.string_clauses.specs.StringClauses.{all_blank, trim_turn, trimsp}
use Rattle.string_clauses.specs.StringTable.{string_clause, string_visits}
use Rattle.string_clauses.specs.Walks.{walk, walk_visits}
use Rattle.string_runtime.specs.StringParts.{trim_code}
use Rattle.string_runtime.proofs.StringHeads.{after_memory}
use Rattle.exp_common.proofs.Words.{sub_one}

module _ (g : Setting) (k : ℕ) (s1 s2 : ℤ) (before : State) (failed : Option ℕ) (words : ℕ → ℤ) (r : Registers) (first : ℤ) (cost : ℕ) where
  -- the state at the loop's head, and behind the loop
  abbrev at_trim : ℕ → ℤ → ℤ → ℤ → ℕ → Micro
  at_trim left a b c w = record {
    state = record before { steps = before.steps + 1 };
    registers = record r { r7 = pos left; r8 = first; r9 = pos 0; r10 = pos 1; r11 = pos 32; r12 = a; r13 = b; r14 = c };
    scratch = words;
    failed = failed;
    spent = w;
  }

  trim_loop : (n i : ℕ) (a b c : ℤ) (w : ℕ) (go : ℕ → MemoryEffect) → n < 2 ^ 62 → w + 80 * walk_visits (trim_turn before.memory first) i n n + 200 ≤ cost →
      ((left : ℕ) (a b c : ℤ) (w' : ℕ) → left ≤ n → w' + 100 ≤ cost → Makes g (before.statement + 1) (trim_code k s1 s2) 20 (at_trim left a b c w') (after_memory before (go left)) cost) →
      Makes g (before.statement + 1) (trim_code k s1 s2) 13 (at_trim n a b c w) (after_memory before (walk (trim_turn before.memory first) all_blank i n n >>= go)) cost
  unfolding walk walk_visits trim_turn trim_code
  trim_loop zero i a b c w go small pays exit = by_way (exit 0 a b c (w + 8) (omega arith) (omega (arith, pays))) (λ f y. record { fuel = suc f; meets = y })
  trim_loop (suc n) i a b c w go small pays exit =
      let z : nat_eq (suc n) 0 ≡ false = grind arith in
      let less : suc n - 1 ≡ n = omega arith in
      let down : wrapped_difference (pos (suc n)) (pos 1) ≡ pos n = sub_one n (omega arith) in
      by_option (char_at before.memory (first ⊞ pos n))
      (λ e. let pays' = simp (less, e) at pays in record { fuel = 8; meets = simp (z, less, down, e) (refl, refl, omega (arith, pays')) })
      (λ ch e. by_test (nat_eq ch 32)
      (λ t.
      let pays' = simp (less, e, t) at pays in
      by_way (trim_loop n (i + 1) (pos n) (first ⊞ pos n) (pos ch) (w + 8 + 8 + 8 + 28 + 8 + 8 + 8) go (omega (arith, small)) (omega (arith, pays')) (λ left a b c w' le. exit left a b c w' (omega (arith, le))))
      (λ f y. record { fuel = more 7 f; meets = simp (z, less, down, e, t) y }))
      (λ t.
      let pays' = simp (less, e, t) at pays in
      by_way (exit (suc n) (pos n) (first ⊞ pos n) (pos ch) (w + 8 + 8 + 8 + 28 + 8) (omega arith) (omega (arith, pays')))
      (λ f y. record { fuel = more 5 f; meets = simp (z, less, down, e, t) y })))

module _ (k : ℕ) (s1 s2 : ℤ) (specials : Specials) where
  pub trimsp_does : Does k (trim_code k s1 s2) specials (Place s1 ∷ Place s2 ∷ []) (string_clause Trimsp) (string_visits Trimsp)
  unfolding string_clause trimsp trim_code
  trimsp_does g program parameters u h =
      let before : State = at k u.state in
      let m = u.state.memory in
      let valid = h.valid.memory in
      let d = pos m.limits.cell_size in
      by_read m s2 valid (λ none. record { fuel = 10; meets = simp (h.left, none) (refl, refl, lit≤ tt) }) (λ a f v is read.
      by_read m (s2 ⊞ d) valid (λ none. record { fuel = 10; meets = simp (h.left, is, none) (refl, refl, lit≤ tt) }) (λ o f2 l is2 read2.
      let first = a ⊞ o in
      let cost = 2000 + 400 * (2 + (4 + walk_visits (trim_turn m first) 0 l l)) in
      let r : Registers = record u.registers { r1 = s2 ⊞ d; r2 = a; r3 = pos f; r4 = pos v; r5 = d; r6 = o } in
      let go : ℕ → MemoryEffect = λ left. onward (set_spec_at m s1 (record { a = a; f = f; v = v; o = o; l = left })) in
      let zf = zero_within m.limits.flag_limit in
      let most = (within_limit m.limits.value_limit (pos l) l read2.v_again).0 in
      by_way (trim_loop g k s1 s2 before u.failed u.scratch r first cost l 0 u.registers.r12 u.registers.r13 u.registers.r14 (28 + 8 + 28 + 28 + 28 + 8 + 8 + 28 + 28 + 8 + 8 + 8 + 8) go (omega (arith, read2.value)) (omega arith)
      (λ left x y z w le pays.
      let zv = fits_within m.limits.value_limit left (omega (arith, le, most)) in
      by_option (put_cell m s1 (Describes (record { a = a; f = f; v = v }))) (λ e. record { fuel = 8; meets = simp (read.f_again, read.v_again, e) (refl, refl, omega (arith, pays)) }) (λ c1 e1.
      by_option (put_cell (record m { cells = c1 }) (s1 ⊞ d) (Describes (record { a = o; f = 0; v = left }))) (λ e. record { fuel = 8; meets = simp (read.f_again, read.v_again, e1, zf, zv, e) (refl, refl, omega (arith, pays)) }) (λ c2 e2.
      record { fuel = 8; meets = simp (read.f_again, read.v_again, e1, zf, zv, e2) (refl, omega (arith, pays)) }))))
      (λ fuel y. record { fuel = more 13 fuel; meets = simp (h.left, is, is2) y })))
