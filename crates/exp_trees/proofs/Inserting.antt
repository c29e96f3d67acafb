-- What the part does that puts a node between another and its father.
use Rattle.std.proofs.Common.{ℕ, ◌+◌, ◌*◌, ◌<◌, ◌≤◌, ◌^◌, List, Option, refl, arith}
use Rattle.std.specs.Prelude.{ℤ, pos}
use Rattle.layout_params.specs.declared.cell.Cell.{Cell}
use Rattle.layout_params.specs.declared.cell.Cell.TheVariants.{Descr}
use Rattle.layout_params.specs.declared.cell.Descr.{Descr as Descriptor}
use Rattle.sil_model.specs.Access.{◌>>=◌, put_cell, set_v_at, v_at}
use Rattle.sil_model.specs.Effects.{MemoryEffect, onward, with_memory}
use Rattle.sil_model.specs.Integers.{◌⊞◌}
use Rattle.sil_model.specs.Memory.{IsMemory, Memory}
use Rattle.sil_model.specs.Settling.{settle}
use Rattle.sil_model.specs.States.{State}
use Rattle.sil_micro.specs.Expands.{Makes}
use Rattle.sil_micro.specs.MicroStates.{Setting, Micro, Registers}
use Rattle.sil_micro.proofs.Making.{by_option, more, by_way}
use Rattle.exp_common.proofs.JoinedParts.{IsPart}
use Rattle.exp_common.proofs.Questions.{IsRead, by_read}
use Rattle.tree_clauses.specs.TreeClauses.{inserted, three_written, two_written}
use Rattle.exp_trees.specs.TreeParts.{inserted_code}
use Rattle.exp_trees.proofs.CellSizes.{four_cells, one_more, three_cells, two_cells}

pub inserted_part : (statements formats : ℕ) → IsPart statements formats 300 inserted_code
unfolding inserted_code
inserted_part statements formats = record { part = refl; begins = refl; names = refl; quiet = refl; weight = refl }

-- the first node, its father, the node that is inserted, the right sibling, and the sons
module _ (g : Setting) (before : State) (failed : Option ℕ) (words : ℕ → ℤ) (r : Registers) (cost : ℕ) (aa : ℤ) (af av : ℕ) (fa : ℤ) (ff fv : ℕ) (ba : ℤ) (bf bv : ℕ) (sa : ℤ) (sf sv : ℕ) (sons : ℕ) where
  abbrev m : Memory
  m = before.memory

  abbrev size : ℕ
  size = m.limits.cell_size

  abbrev with : List Cell → Memory
  with cells = record m { cells = cells }

  abbrev a : Descriptor
  a = record { a = aa; f = af; v = av }

  abbrev b : Descriptor
  b = record { a = ba; f = bf; v = bv }

  abbrev f : Descriptor
  f = record { a = fa; f = ff; v = fv }

  abbrev sibling : Descriptor
  sibling = record { a = sa; f = sf; v = sv }

  -- the state in the part, in which the step counts
  abbrev pub in_inserted : Memory → ℤ → ℤ → ℤ → ℕ → Micro
  in_inserted m' x y z w = record {
    state = record before { memory = m'; steps = before.steps + 1 };
    registers = record r { r1 = x; r2 = aa; r3 = pos af; r4 = pos av; r5 = fa; r6 = y; r7 = z; r8 = ba; r9 = pos bf; r10 = pos bv; r11 = sa; r12 = pos sf; r13 = pos sv; r14 = pos size; r15 = pos sons };
    scratch = words;
    failed = failed;
    spent = w;
  }

  -- the last three writes, in order
  abbrev below : Memory → MemoryEffect
  below m3 = onward (two_written m3 (aa ⊞ pos size, b) (fa ⊞ pos (2 * size), b) >>= (λ m5. set_v_at m5 (ba ⊞ pos (4 * size)) (pos (sons + 1))))

  below_goes : (cells : List Cell) (x : ℤ) (w : ℕ) → IsRead m.limits ba bf bv → sons < 2 ^ 48 → size ≤ 64 → w + 132 ≤ cost →
      Makes g (before.statement + 1) inserted_code 11 (in_inserted (with cells) x (pos (2 * size)) (pos (3 * size)) w) (settle before (with_memory before (below (with cells)))) cost
  unfolding inserted_code two_written
  below_goes cells x w kept small least pays =
      let up = one_more sons small in
      let four = four_cells size least in
      by_option (put_cell (with cells) (aa ⊞ pos size) (Descr b))
      (λ none. record { fuel = 3; meets = simp (kept.f_again, kept.v_again, none) (refl, refl, omega (arith, pays)) })
      (λ c4 p4.
      by_option (put_cell (with c4) (fa ⊞ pos (2 * size)) (Descr b))
      (λ none. record { fuel = 5; meets = simp (kept.f_again, kept.v_again, p4, none) (refl, refl, omega (arith, pays)) })
      (λ c5 p5.
      by_option (set_v_at (with c5) (ba ⊞ pos (4 * size)) (pos (sons + 1)))
      (λ none. record { fuel = 10; meets = simp (kept.f_again, kept.v_again, p4, p5, four, up, none) (refl, refl, omega (arith, pays)) })
      (λ after set. record { fuel = 10; meets = simp (kept.f_again, kept.v_again, p4, p5, four, up, set) (refl, omega (arith, pays)) })))

  written_goes : (x : ℤ) (w : ℕ) → IsRead m.limits aa af av → IsRead m.limits fa ff fv → IsRead m.limits ba bf bv → IsRead m.limits sa sf sv → sons < 2 ^ 48 → size ≤ 64 → w + 256 ≤ cost →
      Makes g (before.statement + 1) inserted_code 3 (in_inserted m x (pos ff) (pos fv) w) (settle before (with_memory before (onward (inserted m a b f sibling sons)))) cost
  unfolding inserted_code inserted three_written two_written
  written_goes x w ra rf rb rs small least pays =
      let two = two_cells size least in
      let three = three_cells size least in
      by_option (put_cell m (ba ⊞ pos size) (Descr f))
      (λ none. record { fuel = 3; meets = simp (rf.f_again, rf.v_again, none) (refl, refl, omega (arith, pays)) })
      (λ c1 p1.
      by_option (put_cell (with c1) (ba ⊞ pos (3 * size)) (Descr sibling))
      (λ none. record { fuel = 7; meets = simp (rf.f_again, rf.v_again, p1, two, three, rs.f_again, rs.v_again, none) (refl, refl, omega (arith, pays)) })
      (λ c2 p2.
      by_option (put_cell (with c2) (ba ⊞ pos (2 * size)) (Descr a))
      (λ none. record { fuel = 9; meets = simp (rf.f_again, rf.v_again, p1, two, three, rs.f_again, rs.v_again, p2, ra.f_again, ra.v_again, none) (refl, refl, omega (arith, pays)) })
      (λ c3 p3.
      by_way (below_goes c3 (ba ⊞ pos (2 * size)) (w + 8 + 28 + 8 + 8 + 8 + 28 + 8 + 28) rb small least (omega (arith, pays)))
      (λ fuel y. record { fuel = more 8 fuel; meets = simp (rf.f_again, rf.v_again, p1, two, three, rs.f_again, rs.v_again, p2, ra.f_again, ra.v_again, p3) y }))))

-- the sons are read, and then all is written
module _ (g : Setting) (before : State) (failed : Option ℕ) (words : ℕ → ℤ) (r : Registers) (cost : ℕ) (aa : ℤ) (af av : ℕ) (fa : ℤ) (ff fv : ℕ) (ba : ℤ) (bf bv : ℕ) (sa : ℤ) (sf sv : ℕ) where
  abbrev memory : Memory
  memory = before.memory

  abbrev cell : ℕ
  cell = memory.limits.cell_size

  abbrev pub before_inserted : ℤ → ℕ → Micro
  before_inserted x w = record {
    state = record before { steps = before.steps + 1 };
    registers = record r { r1 = x; r2 = aa; r3 = pos af; r4 = pos av; r5 = fa; r6 = pos ff; r7 = pos fv; r8 = ba; r9 = pos bf; r10 = pos bv; r11 = sa; r12 = pos sf; r13 = pos sv; r14 = pos cell; r15 = pos (2 * cell) };
    scratch = words;
    failed = failed;
    spent = w;
  }

  abbrev pub inserting : MemoryEffect
  inserting = do
    sons ← v_at memory (ba ⊞ pos (4 * cell))
    onward (inserted memory (record { a = aa; f = af; v = av }) (record { a = ba; f = bf; v = bv }) (record { a = fa; f = ff; v = fv }) (record { a = sa; f = sf; v = sv }) sons)

  pub inserted_goes : (x : ℤ) (w : ℕ) → IsMemory memory → IsRead memory.limits aa af av → IsRead memory.limits fa ff fv → IsRead memory.limits ba bf bv → IsRead memory.limits sa sf sv → w + 300 ≤ cost →
      Makes g (before.statement + 1) inserted_code 0 (before_inserted x w) (settle before (with_memory before inserting)) cost
  unfolding inserted_code
  inserted_goes x w valid ra rf rb rs pays =
      let four = four_cells cell valid.limits.most in
      by_read memory (ba ⊞ pos (4 * cell)) valid
      (λ none. record { fuel = 4; meets = simp (four, none) (refl, refl, omega (arith, pays)) })
      (λ ca cf sons is read.
      by_way (written_goes g before failed words r cost aa af av fa ff fv ba bf bv sa sf sv sons (ba ⊞ pos (4 * cell)) (w + 8 + 8 + 28) ra rf rb rs read.value valid.limits.most (omega (arith, pays)))
      (λ fuel y. record { fuel = more 3 fuel; meets = simp (four, is) y }))
