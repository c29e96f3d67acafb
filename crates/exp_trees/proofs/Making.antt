-- What the parts do that make a block a node.
use Rattle.std.proofs.Common.{◌≡◌, ℕ, ◌+◌, ◌*◌, ◌≤◌, List, Option, true, refl, arith}
use Rattle.std.specs.Prelude.{ℤ, pos}
use Rattle.layout_params.specs.declared.cell.Cell.{Cell}
use Rattle.layout_params.specs.declared.cell.Cell.TheVariants.{Descr}
use Rattle.layout_params.specs.declared.cell.Descr.{Descr as Descriptor}
use Rattle.sil_model.specs.Access.{◌>>=◌, put_cell, set_descr_at, integer_alone}
use Rattle.sil_model.specs.Effects.{MemoryEffect, onward, with_memory}
use Rattle.sil_model.specs.Integers.{◌⊞◌}
use Rattle.sil_model.specs.Memory.{Memory}
use Rattle.sil_model.specs.Settling.{settle}
use Rattle.sil_model.specs.States.{State}
use Rattle.sil_micro.specs.declared.op.Op.{Op}
use Rattle.sil_micro.specs.Expands.{Makes}
use Rattle.sil_micro.specs.MicroStates.{Setting, Micro, Registers}
use Rattle.sil_micro.specs.Pieces.{joined, is_part}
use Rattle.sil_micro.proofs.Making.{by_option, more, by_way, then_part}
use Rattle.exp_common.proofs.JoinedParts.{IsPart}
use Rattle.exp_common.proofs.Questions.{IsRead, zero_within}
use Rattle.tree_clauses.specs.TreeClauses.{three_written}
use Rattle.exp_trees.specs.TreeParts.{fourth_code, kept_code, made_code}
use Rattle.exp_trees.proofs.CellSizes.{next_cell, three_cells, two_cells}

pub made_part : (statements formats : ℕ) → IsPart statements formats 140 made_code
unfolding made_code
made_part statements formats = record { part = refl; begins = refl; names = refl; quiet = refl; weight = refl }

pub kept_part : (statements formats : ℕ) (to : ℤ) → IsPart statements formats 36 (kept_code to)
unfolding kept_code
kept_part statements formats to = record { part = refl; begins = refl; names = refl; quiet = refl; weight = refl }

pub fourth_part : (statements formats : ℕ) (to : ℤ) → IsPart statements formats 80 (fourth_code to)
unfolding fourth_code
fourth_part statements formats to = record { part = refl; begins = refl; names = refl; quiet = refl; weight = refl }

module _ (g : Setting) (before : State) (failed : Option ℕ) (words : ℕ → ℤ) (r : Registers) (cost : ℕ) (na : ℤ) (nf nv : ℕ) where
  abbrev m : Memory
  m = before.memory

  abbrev size : ℕ
  size = m.limits.cell_size

  abbrev with : List Cell → Memory
  with cells = record m { cells = cells }

  abbrev node : Descriptor
  node = record { a = na; f = nf; v = nv }

  abbrev written : Memory → Registers → ℕ → Micro
  written m' registers w = record { state = record before { memory = m'; steps = before.steps + 1 }; registers = registers; scratch = words; failed = failed; spent = w }

  -- the state behind the part that writes three cells
  abbrev pub behind_made : List Cell → ℤ → ℕ → Micro
  behind_made cells x w = written (with cells) (record r { r1 = x; r2 = na; r3 = pos nf; r4 = pos nv; r13 = pos 0; r14 = pos size; r15 = pos (3 * size) }) w

  pub kept_goes : (to : ℤ) (cells : List Cell) (x : ℤ) (w : ℕ) → IsRead m.limits na nf nv → w + 36 ≤ cost →
      Makes g (before.statement + 1) (kept_code to) 0 (behind_made cells x w) (settle before (with_memory before (onward (set_descr_at (with cells) to node)))) cost
  unfolding kept_code
  kept_goes to cells x w n pays =
      by_option (put_cell (with cells) to (Descr node))
      (λ none. record { fuel = 3; meets = simp (n.f_again, n.v_again, none) (refl, refl, omega (arith, pays)) })
      (λ c p. record { fuel = 3; meets = simp (n.f_again, n.v_again, p) (refl, omega (arith, pays)) })

  -- the same, where registers have the fourth cell
  module _ (xa : ℤ) (xf xv : ℕ) where
    abbrev fourth : Descriptor
    fourth = record { a = xa; f = xf; v = xv }

    abbrev pub behind_four : List Cell → ℤ → ℕ → Micro
    behind_four cells x w = written (with cells) (record r { r1 = x; r2 = na; r3 = pos nf; r4 = pos nv; r10 = xa; r11 = pos xf; r12 = pos xv; r13 = pos 0; r14 = pos size; r15 = pos (3 * size) }) w

    pub fourth_goes : (to : ℤ) (cells : List Cell) (x : ℤ) (w : ℕ) → IsRead m.limits na nf nv → IsRead m.limits xa xf xv → size ≤ 64 → w + 80 ≤ cost →
        Makes g (before.statement + 1) (fourth_code to) 0 (behind_four cells x w) (settle before (with_memory before (set_descr_at (with cells) (na ⊞ pos (4 * size)) fourth >>= (λ m4. onward (set_descr_at m4 to node))))) cost
    unfolding fourth_code
    fourth_goes to cells x w n q most pays =
        let four = next_cell size most in
        by_option (put_cell (with cells) (na ⊞ pos (4 * size)) (Descr fourth))
        (λ none. record { fuel = 6; meets = simp (four, q.f_again, q.v_again, none) (refl, refl, omega (arith, pays)) })
        (λ c p.
        by_option (put_cell (with c) to (Descr node))
        (λ none. record { fuel = 6; meets = simp (four, q.f_again, q.v_again, p, n.f_again, n.v_again, none) (refl, refl, omega (arith, pays)) })
        (λ c' p'. record { fuel = 6; meets = simp (four, q.f_again, q.v_again, p, n.f_again, n.v_again, p') (refl, omega (arith, pays)) }))

  -- the part that writes three cells, where the code behind it does the rest
  module _ (rest : List Op) (inside : is_part rest ≡ true) (fa : ℤ) (ff fv : ℕ) (second third : ℤ) where
    abbrev first : Descriptor
    first = record { a = fa; f = ff; v = fv }

    abbrev pub before_made : ℤ → ℤ → ℤ → ℤ → ℕ → Micro
    before_made x y z q w = written m (record r { r1 = x; r2 = na; r3 = pos nf; r4 = pos nv; r5 = fa; r6 = pos ff; r7 = pos fv; r8 = second; r9 = third; r13 = y; r14 = z; r15 = q }) w

    abbrev pub after_made : List Cell → ℤ → ℕ → Micro
    after_made cells x w = written (with cells) (record r { r1 = x; r2 = na; r3 = pos nf; r4 = pos nv; r5 = fa; r6 = pos ff; r7 = pos fv; r8 = second; r9 = third; r13 = pos 0; r14 = pos size; r15 = pos (3 * size) }) w

    abbrev three : Option Memory
    three = three_written m (na ⊞ pos size, first) (na ⊞ pos (2 * size), integer_alone second) (na ⊞ pos (3 * size), integer_alone third)

    pub made_goes : (x y z q : ℤ) (w : ℕ) (go : Memory → MemoryEffect) → IsRead m.limits fa ff fv → size ≤ 64 → w + 140 ≤ cost →
        ((cells : List Cell) (x' : ℤ) → Makes g (before.statement + 1) rest 0 (after_made cells x' (w + 8 + 8 + 8 + 8 + 28 + 8 + 28 + 8 + 8 + 28)) (settle before (with_memory before (go (with cells)))) cost) →
        Makes g (before.statement + 1) (joined made_code rest) 0 (before_made x y z q w) (settle before (with_memory before (three >>= go))) cost
    unfolding made_code three_written
    made_goes x y z q w go f most pays exit =
        let two = two_cells size most in
        let third' = three_cells size most in
        by_option (put_cell m (na ⊞ pos size) (Descr first))
        (λ none. record { fuel = 6; meets = simp (f.f_again, f.v_again, none) (refl, refl, omega (arith, pays)) })
        (λ c1 p1.
        by_option (put_cell (with c1) (na ⊞ pos (2 * size)) (Descr (integer_alone second)))
        (λ none. record { fuel = 8; meets = simp (f.f_again, f.v_again, p1, two, zero_within, none) (refl, refl, omega (arith, pays)) })
        (λ c2 p2.
        by_option (put_cell (with c2) (na ⊞ pos (3 * size)) (Descr (integer_alone third)))
        (λ none. record { fuel = 11; meets = simp (f.f_again, f.v_again, p1, two, zero_within, p2, third', none) (refl, refl, omega (arith, pays)) })
        (λ c3 p3.
        by_way (then_part made_code inside (omega arith) (exit c3 (na ⊞ pos (3 * size))))
        (λ fuel y. record { fuel = more 10 fuel; meets = simp (f.f_again, f.v_again, p1, two, zero_within, p2, third', p3) y }))))
