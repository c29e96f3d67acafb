-- The least A field of all alternatives.
use Rattle.std.proofs.Common.{◌≡◌, ℕ, zero, suc, ◌+◌, ◌*◌, ◌≤◌, ◌<◌, ◌^◌, [], ◌∷◌, length, Option, false, refl, arith, lit≤}
use Rattle.std.specs.Prelude.{ℤ, pos, int_lt, nat_eq}
use Rattle.layout_params.specs.declared.cell.Cell.TheVariants.{Descr}
use Rattle.sil_macros.specs.declared.names.Macro.TheVariants.{Lvalue}
use Rattle.sil_model.specs.declared.program.Arg.TheVariants.{Place}
use Rattle.sil_model.specs.declared.program.Specials.{Specials}
use Rattle.sil_model.specs.Access.{◌>>=◌, integer_alone, put_cell, set_descr_at}
use Rattle.sil_model.specs.Effects.{MemoryEffect, onward}
use Rattle.sil_model.specs.Integers.{◌⊞◌, wrapped_difference, wrapped_sum}
use Rattle.sil_model.specs.Memory.{IsMemory}
use Rattle.sil_model.specs.States.{State}
use Rattle.sil_micro.specs.Expands.{Does, Makes, at}
use Rattle.sil_micro.specs.MicroStates.{Setting, Micro, Registers}
use Rattle.sil_micro.proofs.Making.{by_option, by_test, more, by_way}
use Rattle.exp_common.proofs.Questions.{by_read, zero_within}
use Rattle.tree_clauses.specs.declared.turns.Lowest.{Lowest}
use Rattle.tree_clauses.specs.Loops.{walk, walk_visits}
use Rattle.tree_clauses.specs.PatternClauses.{greatest, lesser, lowest_turn, lvalue}
use Rattle.tree_clauses.specs.TreeClauses.{left_son, right_sibling}
use Rattle.tree_clauses.specs.TreeTable.{lowest_visits, tree_clause, tree_visits}
use Rattle.pattern_runtime.specs.PatternParts.{least_code}
use Rattle.pattern_runtime.proofs.Linking.{after_memory}
use Rattle.pattern_runtime.proofs.Words.{add_pos, by_zero, sub_one}

module _ (g : Setting) (k : ℕ) (d1 d2 : ℤ) (before : State) (valid : IsMemory before.memory) (failed : Option ℕ) (words : ℕ → ℤ) (r : Registers) (node : ℤ) (cost : ℕ) where
  -- the state at the loop's head, and behind the test of what was taken
  abbrev at_value : ℕ → Lowest → ℤ → ℤ → ℕ → Micro
  at_value n s x y w = record {
    state = record before { steps = before.steps + 1 };
    registers = record r { r2 = left_son before.memory node; r3 = right_sibling before.memory node; r4 = pos 0; r5 = pos 1; r6 = s.offset; r7 = s.least; r8 = pos n; r9 = x; r10 = y };
    scratch = words;
    failed = failed;
    spent = w;
  }

  -- what is done with the least
  abbrev delivered : ℤ → MemoryEffect
  delivered least = onward (set_descr_at before.memory d1 (integer_alone least))

  abbrev place_in : ℕ → Micro → MemoryEffect → Type 0
  place_in place u effect = Makes g (before.statement + 1) (least_code k d1 d2) place u (after_memory before effect) cost

  -- register 7 becomes the lesser of two
  lesser_goes : (n : ℕ) (offset taken least x : ℤ) (w : ℕ) (effect : MemoryEffect) →
      ((w' : ℕ) → w' ≤ w + 16 → place_in 23 (at_value n (record { offset = offset; least = lesser taken least }) x taken w') effect) →
      place_in 21 (at_value n (record { offset = offset; least = least }) x taken w) effect
  unfolding least_code
  lesser_goes n offset taken least x w effect go = by_test (int_lt taken least)
      (λ t. by_way (go (w + 8 + 8) (omega arith)) (λ fuel y. let y' = simp t at y in record { fuel = more 2 fuel; meets = simp t y' }))
      (λ t. by_way (go (w + 8) (omega arith)) (λ fuel y. let y' = simp t at y in record { fuel = more 1 fuel; meets = simp t y' }))

  -- the least is delivered
  least_goes : (n : ℕ) (s : Lowest) (x y : ℤ) (w : ℕ) → w + 40 ≤ cost → place_in 24 (at_value n s x y w) (delivered s.least)
  unfolding least_code
  least_goes n s x y w pays = by_option (put_cell before.memory d1 (Descr (integer_alone s.least)))
      (λ e. record { fuel = 3; meets = simp (zero_within, e) (refl, refl, omega (arith, pays)) })
      (λ cells e. record { fuel = 3; meets = simp (zero_within, e) (refl, omega (arith, pays)) })

  least_loop : (n : ℕ) (offset least x y : ℤ) (w : ℕ) → n < 2 ^ 62 → w + 80 * walk_visits (lowest_turn before.memory node) (λ s. 2) n (record { offset = offset; least = least }) + 100 ≤ cost →
      place_in 13 (at_value n (record { offset = offset; least = least }) x y w) (walk (lowest_turn before.memory node) n (record { offset = offset; least = least }) >>= delivered)
  unfolding walk walk_visits least_code
  least_loop zero offset least x y w small pays = record { fuel = 4; meets = (refl, refl, omega (arith, pays)) }
  least_loop (suc n) offset least x y w small pays =
      let z : nat_eq (suc n) 0 ≡ false = grind arith in
      let down : wrapped_difference (pos (suc n)) (pos 1) ≡ pos n = sub_one n (omega (arith, small)) in
      by_read before.memory (right_sibling before.memory node ⊞ offset) valid
      (λ none. let pays' = simp none at pays in record { fuel = 6; meets = simp (z, down, none) (refl, refl, omega (arith, pays')) })
      (λ taken f v is read. by_read before.memory (left_son before.memory node ⊞ offset) valid
      (λ none. let pays' = simp (is, none) at pays in record { fuel = 8; meets = simp (z, down, is, none) (refl, refl, omega (arith, pays')) })
      (λ next f2 v2 is2 read2. by_zero next
      (λ last.
      let pays' = simp (is, is2, last) at pays in
      by_way (lesser_goes n (pos 0) taken least (left_son before.memory node ⊞ offset) (w + 8 + 8 + 8 + 28 + 8 + 28) (delivered (lesser taken least))
      (λ w' le. by_way (least_goes n (record { offset = pos 0; least = lesser taken least }) (left_son before.memory node ⊞ offset) taken (w' + 8) (omega (arith, le, pays')))
      (λ fuel y'. record { fuel = more 1 fuel; meets = y' })))
      (λ fuel y'. record { fuel = more 6 fuel; meets = simp (z, down, is, is2, last) y' }))
      (λ some differs.
      let pays' = simp (is, is2, some) at pays in
      by_way (lesser_goes n next taken least (left_son before.memory node ⊞ offset) (w + 8 + 8 + 8 + 28 + 8 + 28) (walk (lowest_turn before.memory node) n (record { offset = next; least = lesser taken least }) >>= delivered)
      (λ w' le. by_way (least_loop n next (lesser taken least) (left_son before.memory node ⊞ offset) taken (w' + 8) (omega (arith, small)) (omega (arith, le, pays')))
      (λ fuel y'. record { fuel = more 1 fuel; meets = simp differs y' })))
      (λ fuel y'. record { fuel = more 6 fuel; meets = simp (z, down, is, is2, some) y' }))))

module _ (k : ℕ) (d1 d2 : ℤ) (specials : Specials) where
  pub lvalue_does : Does k (least_code k d1 d2) specials (Place d1 ∷ Place d2 ∷ []) (tree_clause Lvalue) (tree_visits Lvalue)
  unfolding tree_clause lvalue lowest_visits least_code
  lvalue_does g program parameters u h =
      let before : State = at k u.state in
      let m = u.state.memory in
      let valid = h.valid.memory in
      let size = m.limits.cell_size in
      by_read m d2 valid (λ none. record { fuel = 6; meets = simp (h.left, none) (refl, refl, lit≤ tt) }) (λ a f v is read.
      let cost = 2000 + 400 * (2 + (2 + walk_visits (lowest_turn m a) (λ s. 2) (length m.cells) (record { offset = pos 0; least = greatest }))) in
      let two : wrapped_sum (pos size) (pos size) ≡ pos (2 * size) = add_pos size size (2 * size) (omega arith) (omega (arith, valid.limits.most)) in
      let three : wrapped_sum (pos (2 * size)) (pos size) ≡ pos (3 * size) = add_pos (2 * size) size (3 * size) (omega arith) (omega (arith, valid.limits.most)) in
      let r : Registers = record u.registers { r1 = d2 } in
      by_way (least_loop g k d1 d2 before valid u.failed u.scratch r a cost (length m.cells) (pos 0) greatest u.registers.r9 u.registers.r10 (28 + 8 + 8 + 8 + 28 + 8 + 8 + 8 + 8 + 8 + 8 + 8 + 8) (omega (arith, valid.count)) (omega arith))
      (λ fuel y. record { fuel = more 13 fuel; meets = simp (h.left, is, two, three) y }))
