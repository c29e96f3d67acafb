-- A turn of the copy up to its writes: a node is read, and what is to be written is made of it.
use Rattle.std.proofs.Common.{◌≡◌, ℕ, suc, ◌+◌, ◌*◌, ◌≤◌, ◌<◌, ◌^◌, Option, Some, None, true, false, refl, arith}
use Rattle.std.specs.Prelude.{ℤ, pos, nat_eq, ◌==◌, if◌then◌else◌}
use Rattle.sil_model.specs.Access.{descr_at}
use Rattle.sil_model.specs.Effects.{MemoryEffect}
use Rattle.sil_model.specs.Integers.{◌⊞◌, wrapped_difference, wrapped_sum}
use Rattle.sil_model.specs.Memory.{Memory, IsMemory}
use Rattle.sil_model.specs.States.{State}
use Rattle.sil_micro.specs.Expands.{Makes}
use Rattle.sil_micro.specs.MicroStates.{Setting, Micro, Registers}
use Rattle.sil_micro.proofs.Making.{by_test, more, by_way}
use Rattle.tree_clauses.specs.declared.turns.Copying.{Copying}
use Rattle.tree_clauses.specs.declared.turns.Offsets.{Offsets}
use Rattle.tree_clauses.specs.PatternClauses.{risen}
use Rattle.tree_clauses.specs.TreeClauses.{father, left_son, node_code, right_sibling}
use Rattle.pattern_runtime.specs.PatternParts.{copy_code}
use Rattle.pattern_runtime.proofs.Linking.{after_memory}
use Rattle.pattern_runtime.proofs.Words.{add_pos, by_zero, sub_one}

-- a value that is raised, as registers hold it
unfoldable pub raised_word : ℕ → ℤ → ℤ → ℤ
raised_word v by instead = if v == 0 then instead else pos v ⊞ by

-- the first three scratch words
pub record HoldsOffsets (words : ℕ → ℤ) (by : Offsets) : Type 0 where
  pub place : words 0 ≡ by.place
  pub next : words 1 ≡ by.next
  pub instead : words 2 ≡ by.instead

-- the registers at the loop's head, whatever the others hold
abbrev pub at_node : ℕ → Copying → Registers → Registers
at_node n c x = record x { r0 = pos n; r2 = c.to; r3 = c.from; r4 = pos 0; r5 = pos 1; r6 = c.left }

-- the registers once the first cell of a node is read
abbrev pub with_first : ℕ → Copying → ℤ → ℕ → ℕ → ℕ → Registers → Registers
with_first n c a f v size x = record x { r0 = pos n; r2 = c.to; r3 = c.from; r4 = pos 0; r5 = pos 1; r6 = c.left; r7 = a; r8 = pos f; r9 = pos v; r15 = pos size }

-- the registers within a turn
abbrev pub holding : ℕ → Copying → ℤ → ℕ → ℕ → ℤ → ℕ → ℤ → ℤ → ℤ → ℤ → ℤ → ℤ → ℤ → Registers
holding n c a f v a2 f2 v2 a3 v3 x y4 y5 y15 = record {
  r0 = pos n;
  r1 = x;
  r2 = c.to;
  r3 = c.from;
  r4 = y4;
  r5 = y5;
  r6 = c.left;
  r7 = a;
  r8 = pos f;
  r9 = pos v;
  r10 = a2;
  r11 = pos f2;
  r12 = v2;
  r13 = a3;
  r14 = v3;
  r15 = y15;
}

pub twice : (m : Memory) → IsMemory m → wrapped_sum (pos m.limits.cell_size) (pos m.limits.cell_size) ≡ pos (2 * m.limits.cell_size)
twice m valid = add_pos m.limits.cell_size m.limits.cell_size (2 * m.limits.cell_size) (omega arith) (omega (arith, valid.limits.most))

pub thrice : (m : Memory) → IsMemory m → wrapped_sum (pos (2 * m.limits.cell_size)) (pos m.limits.cell_size) ≡ pos (3 * m.limits.cell_size)
thrice m valid = add_pos (2 * m.limits.cell_size) m.limits.cell_size (3 * m.limits.cell_size) (omega arith) (omega (arith, valid.limits.most))

pub four_times : (m : Memory) → IsMemory m → wrapped_sum (pos (2 * m.limits.cell_size)) (pos (2 * m.limits.cell_size)) ≡ pos (4 * m.limits.cell_size)
four_times m valid = add_pos (2 * m.limits.cell_size) (2 * m.limits.cell_size) (4 * m.limits.cell_size) (omega arith) (omega (arith, valid.limits.most))

-- a state within the copy, and that the code from a place on has an effect
abbrev pub copy_state : State → Option ℕ → (ℕ → ℤ) → Memory → Registers → ℕ → Micro
copy_state before failed words m r w = record { state = record before { memory = m; steps = before.steps + 1 }; registers = r; scratch = words; failed = failed; spent = w }

abbrev pub in_copy : Setting → ℤ → State → ℕ → ℕ → Micro → MemoryEffect → Type 0
in_copy g d1 before cost place u effect = Makes g (before.statement + 1) (copy_code d1) place u (after_memory before effect) cost

module _ (g : Setting) (d1 : ℤ) (before : State) (failed : Option ℕ) (words : ℕ → ℤ) (cost : ℕ) where
  abbrev micro : Memory → Registers → ℕ → Micro
  micro = copy_state before failed words

  abbrev place_in : ℕ → Micro → MemoryEffect → Type 0
  place_in = in_copy g d1 before cost

  module _ (n : ℕ) (m : Memory) (valid : IsMemory m) (c : Copying) (effect : MemoryEffect) where
    module _ (small : n < 2 ^ 62) (x : Registers) (w : ℕ) where
      less_one : wrapped_difference (pos (suc n)) (pos 1) ≡ pos n
      less_one = sub_one n (omega (arith, small))

      -- the first cell is read
      pub first_goes : (a : ℤ) (f v : ℕ) → descr_at m (father m c.from) ≡ Some (record { a = a; f = f; v = v }) →
          place_in 10 (micro m (with_first n c a f v m.limits.cell_size (record x { r1 = father m c.from })) (w + 8 + 8 + 8 + 8 + 28 + 28 + 28)) effect → place_in 1 (micro m (at_node (suc n) c x) w) effect
      unfolding copy_code
      first_goes a f v is go =
          let z : nat_eq (suc n) 0 ≡ false = grind arith in
          by_way go (λ fuel y. record { fuel = more 7 fuel; meets = simp (z, less_one, is) y })

    module _ (a : ℤ) (f v : ℕ) (x : Registers) (w : ℕ) where
      -- the second
      pub second_goes : (a2 : ℤ) (f2 v2 : ℕ) → descr_at m (left_son m c.from) ≡ Some (record { a = a2; f = f2; v = v2 }) →
          place_in 15 (micro m (with_first n c a f v m.limits.cell_size (record x { r1 = left_son m c.from; r10 = a2; r11 = pos f2; r12 = pos v2 })) (w + 8 + 8 + 28 + 28 + 28)) effect → place_in 10 (micro m (with_first n c a f v m.limits.cell_size x) w) effect
      unfolding copy_code
      second_goes a2 f2 v2 is go = by_way go (λ fuel y. record { fuel = more 5 fuel; meets = simp (twice m valid, is) y })

      -- and the third, of which two fields are
      pub third_goes : (a2 : ℤ) (f2 v2 : ℕ) (a3 : ℤ) (f3 v3 : ℕ) → descr_at m (right_sibling m c.from) ≡ Some (record { a = a3; f = f3; v = v3 }) →
          place_in 20 (micro m (holding n c a f v a2 f2 (pos v2) a3 (pos v3) (right_sibling m c.from) (pos 0) (pos 1) (pos m.limits.cell_size)) (w + 8 + 8 + 8 + 28 + 28)) effect →
          place_in 15 (micro m (with_first n c a f v m.limits.cell_size (record x { r10 = a2; r11 = pos f2; r12 = pos v2 })) w) effect
      unfolding copy_code
      third_goes a2 f2 v2 a3 f3 v3 is go = by_way go (λ fuel y. record { fuel = more 5 fuel; meets = simp (twice m valid, thrice m valid, is) y })

    module _ (by : Offsets) (held : HoldsOffsets words by) (a : ℤ) (f v : ℕ) (a2 : ℤ) (f2 v2 : ℕ) (a3 : ℤ) (v3 : ℕ) (d : ℤ) where
      next_goes : (x : ℤ) (w : ℕ) → ((x' : ℤ) (w' : ℕ) → w' ≤ w + 44 → place_in 23 (micro m (holding n c a f v (risen a2 by.next) f2 (pos v2) a3 (pos v3) x' (pos 0) (pos 1) d) w') effect) →
          place_in 20 (micro m (holding n c a f v a2 f2 (pos v2) a3 (pos v3) x (pos 0) (pos 1) d) w) effect
      unfolding copy_code
      next_goes x w go = by_zero a2
          (λ none. by_way (go x (w + 8) (omega arith)) (λ fuel y. let y' = simp none at y in record { fuel = more 1 fuel; meets = simp none y' }))
          (λ some differs. by_way (go by.next (w + 8 + 28 + 8) (omega arith)) (λ fuel y. let y' = simp some at y in record { fuel = more 3 fuel; meets = simp (differs, held.next) y' }))

      value_goes : (a2' : ℤ) (x : ℤ) (w : ℕ) → ((x' : ℤ) (w' : ℕ) → w' ≤ w + 52 → place_in 29 (micro m (holding n c a f v a2' f2 (raised_word v2 by.next by.instead) a3 (pos v3) x' (pos 0) (pos 1) d) w') effect) →
          place_in 23 (micro m (holding n c a f v a2' f2 (pos v2) a3 (pos v3) x (pos 0) (pos 1) d) w) effect
      unfolding copy_code raised_word
      value_goes a2' x w go = by_test (nat_eq v2 0)
          (λ t. by_way (go (pos 2) (w + 8 + 8 + 28 + 8) (omega arith)) (λ fuel y. let y' = simp t at y in record { fuel = more 4 fuel; meets = simp (t, held.instead) y' }))
          (λ t. by_way (go by.next (w + 8 + 28 + 8) (omega arith)) (λ fuel y. let y' = simp t at y in record { fuel = more 3 fuel; meets = simp (t, held.next) y' }))

      place_goes : (a2' v2' x : ℤ) (w : ℕ) → place_in 32 (micro m (holding n c a f v a2' f2 v2' (a3 ⊞ by.place) (pos v3 ⊞ by.place) by.place (pos 0) (pos 1) d) (w + 28 + 8 + 8)) effect →
          place_in 29 (micro m (holding n c a f v a2' f2 v2' a3 (pos v3) x (pos 0) (pos 1) d) w) effect
      unfolding copy_code
      place_goes a2' v2' x w go = by_way go (λ fuel y. record { fuel = more 3 fuel; meets = simp held.place y })

      -- offsets that aren't 0 rise, a value of 0 is another one, and the place rises
      pub changes_go : (x : ℤ) (w : ℕ) →
          ((w' : ℕ) → w' ≤ w + 140 → place_in 32 (micro m (holding n c a f v (risen a2 by.next) f2 (raised_word v2 by.next by.instead) (a3 ⊞ by.place) (pos v3 ⊞ by.place) by.place (pos 0) (pos 1) d) w') effect) →
          place_in 20 (micro m (holding n c a f v a2 f2 (pos v2) a3 (pos v3) x (pos 0) (pos 1) d) w) effect
      changes_go x w go =
          next_goes x w (λ x1 w1 le1. value_goes (risen a2 by.next) x1 w1 (λ x2 w2 le2. place_goes (risen a2 by.next) (raised_word v2 by.next by.instead) x2 w2 (go (w2 + 28 + 8 + 8) (omega (arith, le1, le2)))))

    module _ (a : ℤ) (f v : ℕ) (a2 : ℤ) (f2 : ℕ) (v2 a3 v3 x : ℤ) (w : ℕ) where
      -- what is read so far
      abbrev read_so_far : Micro
      read_so_far = micro m (holding n c a f v a2 f2 v2 a3 v3 x (pos 0) (pos 1) (pos m.limits.cell_size)) w

      pub no_fourth_goes : nat_eq v 3 ≡ false →
          place_in 40 (micro m (holding n c a f v a2 f2 v2 a3 v3 (pos 3) (pos 0) (pos 1) (pos m.limits.cell_size)) (w + 8 + 8)) effect → place_in 32 read_so_far effect
      unfolding copy_code
      no_fourth_goes t go = by_way go (λ fuel y. record { fuel = more 2 fuel; meets = simp t y })

      pub fourth_goes : nat_eq v 3 ≡ true → (a4 : ℤ) (f4 v4 : ℕ) → descr_at m (node_code m c.from) ≡ Some (record { a = a4; f = f4; v = v4 }) →
          place_in 40 (micro m (holding n c a f v a2 f2 v2 a3 v3 (node_code m c.from) (pos f4) (pos v4) a4) (w + 8 + 8 + 8 + 8 + 8 + 28 + 28 + 28)) effect → place_in 32 read_so_far effect
      unfolding copy_code
      fourth_goes t a4 f4 v4 is go =
          let two = twice m valid in
          let four = four_times m valid in
          by_way go (λ fuel y. record { fuel = more 8 fuel; meets = simp (t, two, four, is) y })

  module _ (n : ℕ) (m : Memory) (valid : IsMemory m) (c : Copying) (x : Registers) (w : ℕ) (pays : w + 150 ≤ cost) where
    -- there is no first cell to be read, no second or no third
    pub first_stops : n < 2 ^ 62 → descr_at m (father m c.from) ≡ None → place_in 1 (micro m (at_node (suc n) c x) w) None
    unfolding copy_code
    first_stops small none =
        let z : nat_eq (suc n) 0 ≡ false = grind arith in
        let down : wrapped_difference (pos (suc n)) (pos 1) ≡ pos n = sub_one n (omega (arith, small)) in
        record { fuel = 6; meets = simp (z, down, none) (refl, refl, omega (arith, pays)) }

    pub second_stops : (a : ℤ) (f v : ℕ) → descr_at m (left_son m c.from) ≡ None → place_in 10 (micro m (with_first n c a f v m.limits.cell_size x) w) None
    unfolding copy_code
    second_stops a f v none = record { fuel = 4; meets = simp (twice m valid, none) (refl, refl, omega (arith, pays)) }

    pub third_stops : (a : ℤ) (f v : ℕ) → descr_at m (right_sibling m c.from) ≡ None → place_in 15 (micro m (with_first n c a f v m.limits.cell_size x) w) None
    unfolding copy_code
    third_stops a f v none = record { fuel = 5; meets = simp (twice m valid, thrice m valid, none) (refl, refl, omega (arith, pays)) }

  -- there is no fourth cell to be read
  pub fourth_stops : (n : ℕ) (m : Memory) (valid : IsMemory m) (c : Copying) (a : ℤ) (f v : ℕ) (a2 : ℤ) (f2 : ℕ) (v2 a3 v3 x : ℤ) (w : ℕ) → nat_eq v 3 ≡ true → descr_at m (node_code m c.from) ≡ None → w + 100 ≤ cost →
      place_in 32 (micro m (holding n c a f v a2 f2 v2 a3 v3 x (pos 0) (pos 1) (pos m.limits.cell_size)) w) None
  unfolding copy_code
  fourth_stops n m valid c a f v a2 f2 v2 a3 v3 x w t none pays =
      let two = twice m valid in
      let four = four_times m valid in
      record { fuel = 7; meets = simp (t, two, four, none) (refl, refl, omega (arith, pays)) }
