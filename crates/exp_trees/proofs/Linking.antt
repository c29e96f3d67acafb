-- What the part does that gives a node its father and its right sibling.
use Rattle.std.proofs.Common.{ℕ, ◌+◌, ◌*◌, ◌<◌, ◌≤◌, ◌^◌, List, Option, refl, arith}
use Rattle.std.specs.Prelude.{ℤ, pos}
use Rattle.layout_params.specs.declared.cell.Cell.{Cell}
use Rattle.layout_params.specs.declared.cell.Cell.TheVariants.{Descr}
use Rattle.sil_model.specs.Access.{◌>>=◌, put_cell, set_descr_at, set_v_at}
use Rattle.sil_model.specs.Effects.{MemoryEffect, onward, with_memory}
use Rattle.sil_model.specs.Integers.{◌⊞◌}
use Rattle.sil_model.specs.Memory.{Memory}
use Rattle.sil_model.specs.Settling.{settle}
use Rattle.sil_model.specs.States.{State}
use Rattle.sil_micro.specs.Expands.{Makes}
use Rattle.sil_micro.specs.MicroStates.{Setting, Micro, Registers}
use Rattle.sil_micro.proofs.Making.{by_option, more, by_way}
use Rattle.exp_common.proofs.JoinedParts.{IsPart}
use Rattle.exp_common.proofs.Questions.{IsRead}
use Rattle.exp_trees.specs.TreeParts.{linked_code}
use Rattle.exp_trees.proofs.CellSizes.{one_more}

pub linked_part : (statements formats : ℕ) → IsPart statements formats 144 linked_code
unfolding linked_code
linked_part statements formats = record { part = refl; begins = refl; names = refl; quiet = refl; weight = refl }

-- the father, the node, its right sibling, the sons, and the addresses of the cell that the node comes into and of the father's code
module _ (g : Setting) (before : State) (failed : Option ℕ) (words : ℕ → ℤ) (r : Registers) (cost : ℕ) (fa : ℤ) (ff fv : ℕ) (ba : ℤ) (bf bv : ℕ) (sa : ℤ) (sf sv : ℕ) (sons : ℕ) (at code : ℤ) where
  abbrev m : Memory
  m = before.memory

  abbrev size : ℕ
  size = m.limits.cell_size

  abbrev with : List Cell → Memory
  with cells = record m { cells = cells }

  -- the state in the part, in which the step counts
  abbrev pub in_linked : Memory → ℤ → ℕ → Micro
  in_linked m' x w = record {
    state = record before { memory = m'; steps = before.steps + 1 };
    registers = record r { r1 = x; r2 = fa; r3 = pos ff; r4 = pos fv; r5 = ba; r6 = pos bf; r7 = pos bv; r8 = sa; r9 = pos sf; r10 = pos sv; r11 = pos sons; r12 = at; r13 = code; r14 = pos size; r15 = pos (3 * size) };
    scratch = words;
    failed = failed;
    spent = w;
  }

  counted : (cells : List Cell) (x : ℤ) (w : ℕ) → sons < 2 ^ 48 → w + 44 ≤ cost → Makes g (before.statement + 1) linked_code 5 (in_linked (with cells) x w) (settle before (with_memory before (onward (set_v_at (with cells) code (pos (sons + 1)))))) cost
  unfolding linked_code
  counted cells x w small pays =
      let up = one_more sons small in
      by_option (set_v_at (with cells) code (pos (sons + 1)))
      (λ none. record { fuel = 4; meets = simp (up, none) (refl, refl, omega (arith, pays)) })
      (λ after set. record { fuel = 4; meets = simp (up, set) (refl, omega (arith, pays)) })

  -- all four writes, in order
  abbrev pub linked : MemoryEffect
  linked = do
    m1 ← set_descr_at m (ba ⊞ pos (3 * size)) (record { a = sa; f = sf; v = sv })
    m2 ← set_descr_at m1 (ba ⊞ pos size) (record { a = fa; f = ff; v = fv })
    m3 ← set_descr_at m2 at (record { a = ba; f = bf; v = bv })
    onward (set_v_at m3 code (pos (sons + 1)))

  pub linked_goes : (x : ℤ) (w : ℕ) → IsRead m.limits fa ff fv → IsRead m.limits ba bf bv → IsRead m.limits sa sf sv → sons < 2 ^ 48 → w + 144 ≤ cost →
      Makes g (before.statement + 1) linked_code 0 (in_linked m x w) (settle before (with_memory before linked)) cost
  unfolding linked_code
  linked_goes x w f b s small pays =
      by_option (put_cell m (ba ⊞ pos (3 * size)) (Descr (record { a = sa; f = sf; v = sv })))
      (λ none. record { fuel = 3; meets = simp (s.f_again, s.v_again, none) (refl, refl, omega (arith, pays)) })
      (λ c1 p1.
      by_option (put_cell (with c1) (ba ⊞ pos size) (Descr (record { a = fa; f = ff; v = fv })))
      (λ none. record { fuel = 5; meets = simp (s.f_again, s.v_again, p1, f.f_again, f.v_again, none) (refl, refl, omega (arith, pays)) })
      (λ c2 p2.
      by_option (put_cell (with c2) at (Descr (record { a = ba; f = bf; v = bv })))
      (λ none. record { fuel = 6; meets = simp (s.f_again, s.v_again, p1, f.f_again, f.v_again, p2, b.f_again, b.v_again, none) (refl, refl, omega (arith, pays)) })
      (λ c3 p3.
      by_way (counted c3 (ba ⊞ pos size) (w + 8 + 28 + 8 + 28 + 28) small (omega (arith, pays)))
      (λ fuel y. record { fuel = more 5 fuel; meets = simp (s.f_again, s.v_again, p1, f.f_again, f.v_again, p2, b.f_again, b.v_again, p3) y }))))
