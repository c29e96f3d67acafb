-- The last alternative gets an offset.
use Rattle.std.proofs.Common.{◌≡◌, ℕ, zero, suc, ◌+◌, ◌*◌, ◌≤◌, ◌<◌, ◌^◌, [], ◌∷◌, length, Option, false, refl, arith, lit≤}
use Rattle.std.specs.Prelude.{ℤ, pos, nat_eq}
use Rattle.layout_params.specs.declared.cell.Cell.TheVariants.{Descr}
use Rattle.sil_macros.specs.declared.names.Macro.TheVariants.{Linkor}
use Rattle.sil_model.specs.declared.program.Arg.TheVariants.{Place}
use Rattle.sil_model.specs.declared.program.Specials.{Specials}
use Rattle.sil_model.specs.Access.{◌>>=◌, put_cell, set_a_at}
use Rattle.sil_model.specs.Effects.{MemoryEffect, onward, with_memory}
use Rattle.sil_model.specs.Integers.{◌⊞◌, wrapped_difference, wrapped_sum}
use Rattle.sil_model.specs.Memory.{IsMemory}
use Rattle.sil_model.specs.Settling.{settle}
use Rattle.sil_model.specs.States.{State, Step}
use Rattle.sil_micro.specs.Expands.{Does, Makes, at}
use Rattle.sil_micro.specs.MicroStates.{Setting, Micro, Registers}
use Rattle.sil_micro.proofs.Making.{by_option, more, by_way}
use Rattle.exp_common.proofs.Questions.{by_read}
use Rattle.tree_clauses.specs.Loops.{walk, walk_visits}
use Rattle.tree_clauses.specs.PatternClauses.{link_turn, linkor}
use Rattle.tree_clauses.specs.TreeClauses.{left_son}
use Rattle.tree_clauses.specs.TreeTable.{link_visits, tree_clause, tree_visits}
use Rattle.pattern_runtime.specs.PatternParts.{link_code}
use Rattle.pattern_runtime.proofs.Words.{add_pos, by_zero, sub_one}

-- the step that an effect on memory makes
abbrev pub after_memory : State → MemoryEffect → Step
after_memory before effect = settle before (with_memory before effect)

module _ (g : Setting) (k : ℕ) (d1 d2 : ℤ) (before : State) (valid : IsMemory before.memory) (failed : Option ℕ) (words : ℕ → ℤ) (r : Registers) (first b : ℤ) (cost : ℕ) where
  -- the state at the loop's head
  abbrev at_link : ℕ → ℤ → ℤ → ℕ → Micro
  at_link n offset x w = record {
    state = record before { steps = before.steps + 1 };
    registers = record r { r2 = first; r3 = b; r4 = pos 0; r5 = pos 1; r6 = offset; r8 = pos n; r9 = x };
    scratch = words;
    failed = failed;
    spent = w;
  }

  link_loop : (n : ℕ) (offset x : ℤ) (w : ℕ) → n < 2 ^ 62 → w + 80 * walk_visits (link_turn before.memory first) (λ o. 1) n offset + 100 ≤ cost →
      Makes g (before.statement + 1) (link_code k d1 d2) 12 (at_link n offset x w) (after_memory before (walk (link_turn before.memory first) n offset >>= (λ o. onward (set_a_at before.memory (first ⊞ o) b)))) cost
  unfolding walk walk_visits link_code
  link_loop zero offset x w small pays = record { fuel = 4; meets = (refl, refl, omega (arith, pays)) }
  link_loop (suc n) offset x w small pays =
      let z : nat_eq (suc n) 0 ≡ false = grind arith in
      let down : wrapped_difference (pos (suc n)) (pos 1) ≡ pos n = sub_one n (omega (arith, small)) in
      by_read before.memory (first ⊞ offset) valid
      (λ none. let pays' = simp none at pays in record { fuel = 6; meets = simp (z, down, none) (refl, refl, omega (arith, pays')) })
      (λ a f v is read. by_zero a
      (λ last.
      let pays' = simp (is, last) at pays in
      by_option (put_cell before.memory (first ⊞ offset) (Descr (record { a = b; f = f; v = v })))
      (λ e. record { fuel = 7; meets = simp (z, down, is, last, e) (refl, refl, omega (arith, pays')) })
      (λ cells e. record { fuel = 7; meets = simp (z, down, is, last, e) (refl, omega (arith, pays')) }))
      (λ some differs.
      let pays' = simp (is, some) at pays in
      by_way (link_loop n a (first ⊞ offset) (w + 8 + 8 + 8 + 28 + 8) (omega (arith, small)) (omega (arith, pays')))
      (λ fuel y. record { fuel = more 5 fuel; meets = simp (z, down, is, some, differs) y })))

module _ (k : ℕ) (d1 d2 : ℤ) (specials : Specials) where
  pub linkor_does : Does k (link_code k d1 d2) specials (Place d1 ∷ Place d2 ∷ []) (tree_clause Linkor) (tree_visits Linkor)
  unfolding tree_clause linkor link_visits link_code
  linkor_does g program parameters u h =
      let before : State = at k u.state in
      let m = u.state.memory in
      let valid = h.valid.memory in
      let size = m.limits.cell_size in
      by_read m d1 valid (λ none. record { fuel = 8; meets = simp (h.left, none) (refl, refl, lit≤ tt) }) (λ a f v is read.
      by_read m d2 valid (λ none. record { fuel = 8; meets = simp (h.left, is, none) (refl, refl, omega arith) }) (λ b f2 v2 is2 read2.
      let first = left_son m a in
      let cost = 2000 + 400 * (2 + (3 + walk_visits (link_turn m first) (λ o. 1) (length m.cells) (pos 0))) in
      let two : wrapped_sum (pos size) (pos size) ≡ pos (2 * size) = add_pos size size (2 * size) (omega arith) (omega (arith, valid.limits.most)) in
      let r : Registers = record u.registers { r1 = d2; r7 = pos (2 * size) } in
      by_way (link_loop g k d1 d2 before valid u.failed u.scratch r first b cost (length m.cells) (pos 0) u.registers.r9 (28 + 8 + 8 + 8 + 28 + 8 + 28 + 8 + 8 + 8 + 8 + 8) (omega (arith, valid.count)) (omega arith))
      (λ fuel y. record { fuel = more 12 fuel; meets = simp (h.left, is, is2, two) y })))
