-- A turn of the copy: a node is read, its copy is written, and on past both.
use Rattle.std.proofs.Common.{◌≡◌, ℕ, suc, ◌+◌, ◌*◌, ◌≤◌, ◌<◌, ◌^◌, Option, Some, None, true, false, refl, arith}
use Rattle.std.proofs.lemmas.Nat.{mul-le}
use Rattle.std.specs.Prelude.{ℤ, pos, int_lt, nat_eq}
use Rattle.std.specs.declared.ops.ControlFlow.{ControlFlow}
use Rattle.std.specs.declared.ops.ControlFlow.TheVariants.{Continue, Break}
use Rattle.layout_params.specs.declared.cell.Descr.{Descr as Descriptor}
use Rattle.sil_model.specs.Access.{◌>>=◌, descr_at}
use Rattle.sil_model.specs.Effects.{MemoryEffect}
use Rattle.sil_model.specs.Integers.{◌⊞◌, ◌⊟◌, wrapped_product, wrapped_sum}
use Rattle.sil_model.specs.Memory.{Memory, IsMemory}
use Rattle.sil_model.specs.States.{State}
use Rattle.sil_micro.specs.MicroStates.{Setting, Micro, Registers}
use Rattle.sil_micro.proofs.Making.{by_test, more, by_way}
use Rattle.exp_common.proofs.Questions.{IsRead, by_read}
use Rattle.tree_clauses.specs.declared.turns.Copying.{Copying}
use Rattle.tree_clauses.specs.declared.turns.Offsets.{Offsets}
use Rattle.tree_clauses.specs.PatternClauses.{Copies, copied_past, copied_with, copying_on, front_written, node_size, node_turn, rest_written, risen}
use Rattle.tree_clauses.specs.TreeClauses.{father, left_son, maybe_descr_at, node_code, right_sibling}
use Rattle.pattern_runtime.specs.PatternParts.{copy_code}
use Rattle.pattern_runtime.proofs.NodeReads.{HoldsOffsets, at_node, changes_go, copy_state, fourth_goes, fourth_stops, holding, first_goes, first_stops, in_copy, no_fourth_goes, raised_word, second_goes, second_stops, third_goes, third_stops}
use Rattle.pattern_runtime.proofs.NodeWrites.{FitOffsets, front_goes, rest_goes, rest_with_goes}
use Rattle.pattern_runtime.proofs.Words.{add_pos, times_pos}

module _ (g : Setting) (d1 : ℤ) (before : State) (failed : Option ℕ) (words : ℕ → ℤ) (cost : ℕ) where
  abbrev micro : Memory → Registers → ℕ → Micro
  micro = copy_state before failed words

  abbrev place_in : ℕ → Micro → MemoryEffect → Type 0
  place_in = in_copy g d1 before cost

  module _ (n : ℕ) (m : Memory) (valid : IsMemory m) (c : Copying) (rest : ControlFlow Copies Copies → MemoryEffect) where
    -- on past a node and its copy, or the end
    advance_goes : (v f f2 : ℕ) (a2 v2 a3 v3 x y4 y5 y15 : ℤ) (w : ℕ) → v < 2 ^ 48 →
        ((y : Registers) (w' : ℕ) → w' ≤ w + 64 → int_lt (pos 0) (c.left ⊟ node_size m v) ≡ true → place_in 1 (micro m (at_node n (copied_past (node_size m v) c) y) w') (rest (Continue (record { memory = m; at = copied_past (node_size m v) c })))) →
        ((y : Registers) (w' : ℕ) → w' ≤ w + 64 → int_lt (pos 0) (c.left ⊟ node_size m v) ≡ false → place_in 64 (micro m (at_node n (copied_past (node_size m v) c) y) w') (rest (Break (record { memory = m; at = copied_past (node_size m v) c })))) →
        place_in 56 (micro m (holding n c (pos m.limits.cell_size) f v a2 f2 v2 a3 v3 x y4 y5 y15) w) (rest (copied_with m (copying_on (copied_past (node_size m v) c))))
    unfolding copy_code
    advance_goes v f f2 a2 v2 a3 v3 x y4 y5 y15 w few on over =
        let low : (1 + v) * m.limits.cell_size ≤ 2 ^ 48 * 64 = mul-le (1 + v) m.limits.cell_size (2 ^ 48) 64 (omega (arith, few)) valid.limits.most in
        let one : wrapped_sum (pos 1) (pos v) ≡ pos (1 + v) = add_pos 1 v (1 + v) refl (omega (arith, few)) in
        let times : wrapped_product (pos (1 + v)) (pos m.limits.cell_size) ≡ node_size m v = times_pos (1 + v) m.limits.cell_size ((1 + v) * m.limits.cell_size) refl (omega (arith, low)) in
        let y : Registers = record (holding n c (pos m.limits.cell_size) f v a2 f2 v2 a3 v3 x y4 y5 y15) { r9 = node_size m v } in
        by_test (int_lt (pos 0) (c.left ⊟ node_size m v))
        (λ t. by_way (on y (w + 8 + 8 + 8 + 8 + 8 + 8 + 8 + 8) (omega arith) t) (λ fuel z. record { fuel = more 8 fuel; meets = simp (one, times, t) z }))
        (λ t. by_way (over y (w + 8 + 8 + 8 + 8 + 8 + 8 + 8 + 8) (omega arith) t) (λ fuel z. record { fuel = more 8 fuel; meets = simp (one, times, t) z }))

  module _ (by : Offsets) (held : HoldsOffsets words by) (fit : FitOffsets by) (n : ℕ) (small : n < 2 ^ 62) (m : Memory) (valid : IsMemory m) (c : Copying) (rest : ControlFlow Copies Copies → MemoryEffect) (x : Registers) (w : ℕ) (pays : w + 1000 ≤ cost)
      (on : (m2 : Memory) (c2 : Copying) (y : Registers) (w' : ℕ) → IsMemory m2 → w' ≤ w + 900 → node_turn by (record { memory = m; at = c }) ≡ Some (Continue (record { memory = m2; at = c2 })) →
      place_in 1 (micro m2 (at_node n c2 y) w') (rest (Continue (record { memory = m2; at = c2 }))))
      (over : (m2 : Memory) (c2 : Copying) (y : Registers) (w' : ℕ) → IsMemory m2 → w' ≤ w + 900 → node_turn by (record { memory = m; at = c }) ≡ Some (Break (record { memory = m2; at = c2 })) →
      place_in 64 (micro m2 (at_node n c2 y) w') (rest (Break (record { memory = m2; at = c2 })))) where
    -- what is left to do once a node is read
    abbrev writes : Descriptor → Descriptor → Descriptor → Option Descriptor → MemoryEffect
    writes first second third fourth = (front_written m by c.to first second >>= (λ m1. rest_written m1 by c.to third fourth >>= (λ m2. Some (copied_with m2 (copying_on (copied_past (node_size m first.v) c)))))) >>= rest

    module _ (a : ℤ) (f v : ℕ) (a2 : ℤ) (f2 v2 : ℕ) (a3 : ℤ) (f3 v3 : ℕ) (is : descr_at m (father m c.from) ≡ Some (record { a = a; f = f; v = v })) (is2 : descr_at m (left_son m c.from) ≡ Some (record { a = a2; f = f2; v = v2 })) (is3 : descr_at m (right_sibling m c.from) ≡ Some (record { a = a3; f = f3; v = v3 }))
        (first : IsRead m.limits a f v) (second : IsRead m.limits a2 f2 v2) (third : IsRead m.limits a3 f3 v3) where
      abbrev size : ℕ
      size = m.limits.cell_size

      abbrev head : Micro
      head = micro m (at_node (suc n) c x) w

      -- up to the fourth cell
      made_goes : (effect : MemoryEffect) →
          ((w' : ℕ) → w' ≤ w + 440 → place_in 32 (micro m (holding n c a f v (risen a2 by.next) f2 (raised_word v2 by.next by.instead) (a3 ⊞ by.place) (pos v3 ⊞ by.place) by.place (pos 0) (pos 1) (pos size)) w') effect) → place_in 1 head effect
      made_goes effect go =
          let x1 : Registers = record x { r1 = father m c.from } in
          let x2 : Registers = record x { r1 = left_son m c.from } in
          let w1 = w + 8 + 8 + 8 + 8 + 28 + 28 + 28 in
          let w2 = w1 + 8 + 8 + 28 + 28 + 28 in
          let w3 = w2 + 8 + 8 + 8 + 28 + 28 in
          first_goes g d1 before failed words cost n m valid c effect small x w a f v is
          (second_goes g d1 before failed words cost n m valid c effect a f v x1 w1 a2 f2 v2 is2
          (third_goes g d1 before failed words cost n m valid c effect a f v x2 w2 a2 f2 v2 a3 f3 v3 is3
          (changes_go g d1 before failed words cost n m valid c effect by held a f v a2 f2 v2 a3 v3 (pos size) (right_sibling m c.from) w3 (λ w' le. go w' (omega (arith, le))))))

      three_goes : nat_eq v 3 ≡ false → place_in 1 head (writes (record { a = a; f = f; v = v }) (record { a = a2; f = f2; v = v2 }) (record { a = a3; f = f3; v = v3 }) None)
      unfolding maybe_descr_at
      three_goes t = made_goes _ (λ w1 le1.
          no_fourth_goes g d1 before failed words cost n m valid c _ a f v (risen a2 by.next) f2 (raised_word v2 by.next by.instead) (a3 ⊞ by.place) (pos v3 ⊞ by.place) by.place w1 t
          (front_goes g d1 before failed words cost by fit n m valid c _ rest a f v a2 f2 v2 (a3 ⊞ by.place) (pos v3 ⊞ by.place) (pos 3) (pos 0) (pos 1) (pos size) (w1 + 8 + 8) first second (omega (arith, le1, pays))
          (λ c1 valid1 e1. rest_goes g d1 before failed words cost by fit n (record m { cells = c1 }) valid1 c _ rest v (risen a2 by.next) f2 (raised_word v2 by.next by.instead) a3 f3 v3 (left_son m c.to) (pos 0) (pos 1) (pos size) (w1 + 8 + 8 + 8 + 8 + 28 + 8 + 8 + 8 + 28) t third.value (omega (arith, le1, pays))
          (λ c2 valid2 e2. advance_goes n (record m { cells = c2 }) valid2 c rest v (2 * size) f2 (pos 0) (raised_word v2 by.next by.instead) (a3 ⊞ by.place) (pos v3 ⊞ by.place) (pos 3) (pos 0) (pos 1) (pos size) (w1 + 8 + 8 + 8 + 8 + 28 + 8 + 8 + 8 + 28 + 8 + 8 + 8 + 28 + 8 + 8) first.value
          (λ y w' le more_left. on (record m { cells = c2 }) (copied_past (node_size m v) c) y w' valid2 (omega (arith, le, le1)) (simp (is, is2, is3, t, e1, e2, more_left) refl))
          (λ y w' le none_left. over (record m { cells = c2 }) (copied_past (node_size m v) c) y w' valid2 (omega (arith, le, le1)) (simp (is, is2, is3, t, e1, e2, none_left) refl))))))

      four_goes : nat_eq v 3 ≡ true → (a4 : ℤ) (f4 v4 : ℕ) → descr_at m (node_code m c.from) ≡ Some (record { a = a4; f = f4; v = v4 }) → IsRead m.limits a4 f4 v4 →
          place_in 1 head (writes (record { a = a; f = f; v = v }) (record { a = a2; f = f2; v = v2 }) (record { a = a3; f = f3; v = v3 }) (Some (record { a = a4; f = f4; v = v4 })))
      unfolding maybe_descr_at
      four_goes t a4 f4 v4 is4 fourth = made_goes _ (λ w1 le1.
          fourth_goes g d1 before failed words cost n m valid c _ a f v (risen a2 by.next) f2 (raised_word v2 by.next by.instead) (a3 ⊞ by.place) (pos v3 ⊞ by.place) by.place w1 t a4 f4 v4 is4
          (front_goes g d1 before failed words cost by fit n m valid c _ rest a f v a2 f2 v2 (a3 ⊞ by.place) (pos v3 ⊞ by.place) (node_code m c.from) (pos f4) (pos v4) a4 (w1 + 8 + 8 + 8 + 8 + 8 + 28 + 28 + 28) first second (omega (arith, le1, pays))
          (λ c1 valid1 e1. rest_with_goes g d1 before failed words cost by fit n (record m { cells = c1 }) valid1 c _ rest v (risen a2 by.next) f2 (raised_word v2 by.next by.instead) a3 f3 v3 a4 f4 v4 (left_son m c.to) (w1 + 8 + 8 + 8 + 8 + 8 + 28 + 28 + 28 + 8 + 8 + 28 + 8 + 8 + 8 + 28) t third.value fourth (omega (arith, le1, pays))
          (λ c2 valid2 e2. advance_goes n (record m { cells = c2 }) valid2 c rest v (2 * size) f2 (pos 0) (raised_word v2 by.next by.instead) (a3 ⊞ by.place) (pos v3 ⊞ by.place) (node_code m c.to) (pos f4) (pos v4) a4 (w1 + 8 + 8 + 8 + 8 + 8 + 28 + 28 + 28 + 8 + 8 + 28 + 8 + 8 + 8 + 28 + 8 + 8 + 8 + 28 + 8 + 8 + 8 + 8 + 28) first.value
          (λ y w' le more_left. on (record m { cells = c2 }) (copied_past (node_size m v) c) y w' valid2 (omega (arith, le, le1)) (simp (is, is2, is3, t, is4, e1, e2, more_left) refl))
          (λ y w' le none_left. over (record m { cells = c2 }) (copied_past (node_size m v) c) y w' valid2 (omega (arith, le, le1)) (simp (is, is2, is3, t, is4, e1, e2, none_left) refl))))))

      -- a node of four cells that has no fourth
      lacks_fourth : nat_eq v 3 ≡ true → descr_at m (node_code m c.from) ≡ None → place_in 1 head None
      lacks_fourth t none = made_goes None (λ w1 le1. fourth_stops g d1 before failed words cost n m valid c a f v (risen a2 by.next) f2 (raised_word v2 by.next by.instead) (a3 ⊞ by.place) (pos v3 ⊞ by.place) by.place w1 t none (omega (arith, le1, pays)))

    lacks_second : (a : ℤ) (f v : ℕ) → descr_at m (father m c.from) ≡ Some (record { a = a; f = f; v = v }) → descr_at m (left_son m c.from) ≡ None → place_in 1 (micro m (at_node (suc n) c x) w) None
    lacks_second a f v is none =
        let w1 = w + 8 + 8 + 8 + 8 + 28 + 28 + 28 in
        first_goes g d1 before failed words cost n m valid c None small x w a f v is (second_stops g d1 before failed words cost n m valid c (record x { r1 = father m c.from }) w1 (omega (arith, pays)) a f v none)

    lacks_third : (a : ℤ) (f v : ℕ) (a2 : ℤ) (f2 v2 : ℕ) → descr_at m (father m c.from) ≡ Some (record { a = a; f = f; v = v }) → descr_at m (left_son m c.from) ≡ Some (record { a = a2; f = f2; v = v2 }) → descr_at m (right_sibling m c.from) ≡ None →
        place_in 1 (micro m (at_node (suc n) c x) w) None
    lacks_third a f v a2 f2 v2 is is2 none =
        let x1 : Registers = record x { r1 = father m c.from } in
        let x2 : Registers = record x { r1 = left_son m c.from; r10 = a2; r11 = pos f2; r12 = pos v2 } in
        let w1 = w + 8 + 8 + 8 + 8 + 28 + 28 + 28 in
        let w2 = w1 + 8 + 8 + 28 + 28 + 28 in
        first_goes g d1 before failed words cost n m valid c None small x w a f v is
        (second_goes g d1 before failed words cost n m valid c None a f v x1 w1 a2 f2 v2 is2 (third_stops g d1 before failed words cost n m valid c x2 w2 (omega (arith, pays)) a f v none))

    pub node_goes : place_in 1 (micro m (at_node (suc n) c x) w) (node_turn by (record { memory = m; at = c }) >>= rest)
    unfolding maybe_descr_at
    node_goes =
        by_read m (father m c.from) valid
        (λ none. by_way (first_stops g d1 before failed words cost n m valid c x w (omega (arith, pays)) small none) (λ fuel y. record { fuel = fuel; meets = simp none y }))
        (λ a f v is first. by_read m (left_son m c.from) valid
        (λ none. by_way (lacks_second a f v is none) (λ fuel y. record { fuel = fuel; meets = simp (is, none) y }))
        (λ a2 f2 v2 is2 second. by_read m (right_sibling m c.from) valid
        (λ none. by_way (lacks_third a f v a2 f2 v2 is is2 none) (λ fuel y. record { fuel = fuel; meets = simp (is, is2, none) y }))
        (λ a3 f3 v3 is3 third. by_test (nat_eq v 3)
        (λ t. by_read m (node_code m c.from) valid
        (λ none. by_way (lacks_fourth a f v a2 f2 v2 a3 f3 v3 is is2 is3 first second third t none) (λ fuel y. record { fuel = fuel; meets = simp (is, is2, is3, t, none) y }))
        (λ a4 f4 v4 is4 fourth. by_way (four_goes a f v a2 f2 v2 a3 f3 v3 is is2 is3 first second third t a4 f4 v4 is4 fourth) (λ fuel y. record { fuel = fuel; meets = simp (is, is2, is3, t, is4) y })))
        (λ t. by_way (three_goes a f v a2 f2 v2 a3 f3 v3 is is2 is3 first second third t) (λ fuel y. record { fuel = fuel; meets = simp (is, is2, is3, t) y })))))
